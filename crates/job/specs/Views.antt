-- What a job shows, and how it looks after each thing that can happen to it.
-- A count of 32 bits stops at the largest; in a sound job none gets there.
use Rattle.std.specs.Prelude.{ℕ, zero, suc, ◌+◌, ◌-◌, ◌*◌, ◌^◌, min, Bool, true, false, List, replicate, ℤ, pos, slice_index_or, slice_set}
use Rattle.rows.specs.Prices.{planes, remainders, ones_below}
use Rattle.job.specs.declared.parts.State.{State}
use Rattle.job.specs.declared.parts.State.TheVariants.{NotBegun, Open, Finished}
use Rattle.job.specs.declared.parts.Totals.{Totals}
use Rattle.job.specs.declared.parts.Line.{Line}
use Rattle.job.specs.declared.parts.Ticketing.{Ticketing}
use Rattle.job.specs.declared.parts.Ticketing.TheVariants.{Unissued}

-- what a job shows; point and prices have the dimension of its augmenter
pub record View : Type 0 where
  pub number : ℕ
  pub state : State
  pub point : List ℕ
  pub prices : List ℤ
  pub totals : Totals
  pub ledger : List Line
  pub ticketing : Ticketing

-- the job has begun; a plane is open
abbrev pub IsBegun : State → Type 0
IsBegun NotBegun = ⊥
IsBegun (Open k j) = Unit {0}
IsBegun Finished = Unit {0}

abbrev pub IsOpen : State → Type 0
IsOpen NotBegun = ⊥
IsOpen (Open k j) = Unit {0}
IsOpen Finished = ⊥

-- one more, up to the largest number of 32 bits
abbrev pub more : ℕ → ℕ
more n = min (n + 1) (2 ^ 32 - 1)

-- a ledger line with nothing on it, and a ledger of such lines
abbrev pub blank_line : Line
blank_line = record { asked = 0; improved = 0 }

abbrev pub blank_ledger : List Line
blank_ledger = replicate 40 blank_line

-- a job just made
abbrev pub blank : ℕ → ℕ → View
blank m n = record {
  number = m;
  state = NotBegun;
  point = replicate n 0;
  prices = replicate n (pos 0);
  totals = record { asked = 0; improved = 0; closed = 0; rows = 0 };
  ledger = blank_ledger;
  ticketing = Unissued;
}

-- the state with this many planes to go: the top one of them is open, or the job is finished
abbrev pub opened : ℕ → State
opened zero = Finished
opened (suc k) = Open k 0

-- a line with one question more, which found something or did not
abbrev pub counted : Bool → Line → Line
counted true l = record { asked = more l.asked; improved = more l.improved }
counted false l = record { asked = more l.asked; improved = l.improved }

-- a ledger with one question more on line k
abbrev pub noted : Bool → ℕ → List Line → List Line
noted b k ls = slice_set ls k (counted b (slice_index_or ls k blank_line))

-- the job a with the point x
abbrev pub placed : View → List ℕ → View
placed a x = record {
  number = a.number;
  state = a.state;
  point = x;
  prices = a.prices;
  totals = a.totals;
  ledger = a.ledger;
  ticketing = a.ticketing;
}

-- the job a with the prices ps
abbrev pub priced : View → List ℤ → View
priced a ps = record {
  number = a.number;
  state = a.state;
  point = a.point;
  prices = ps;
  totals = a.totals;
  ledger = a.ledger;
  ticketing = a.ticketing;
}

-- the job a with the point x and the prices ps as its present row
abbrev pub accepted : View → List ℕ → List ℤ → View
accepted a x ps = record {
  number = a.number;
  state = opened (planes ps);
  point = x;
  prices = ps;
  totals = record { asked = a.totals.asked; improved = a.totals.improved; closed = a.totals.closed; rows = more a.totals.rows };
  ledger = blank_ledger;
  ticketing = Unissued;
}

-- the job a after a question at plane k that found x, the one after j earlier improvements at that plane
abbrev pub improved : View → ℕ → ℕ → List ℕ → View
improved a k j x = record {
  number = a.number;
  state = Open k (more j);
  point = x;
  prices = a.prices;
  totals = record { asked = more a.totals.asked; improved = more a.totals.improved; closed = a.totals.closed; rows = a.totals.rows };
  ledger = noted true k a.ledger;
  ticketing = a.ticketing;
}

-- the job a after a question at plane k that found nothing: the plane is closed
abbrev pub closed : View → ℕ → View
closed a k = record {
  number = a.number;
  state = opened k;
  point = a.point;
  prices = a.prices;
  totals = record { asked = more a.totals.asked; improved = a.totals.improved; closed = more a.totals.closed; rows = a.totals.rows };
  ledger = noted false k a.ledger;
  ticketing = a.ticketing;
}

-- the job a with another state of its ticket
abbrev pub ticketed : View → Ticketing → View
ticketed a t = record {
  number = a.number;
  state = a.state;
  point = a.point;
  prices = a.prices;
  totals = a.totals;
  ledger = a.ledger;
  ticketing = t;
}

-- the margin: with plane k open and j improvements since, what the planes up to k can still bring; else 0
abbrev pub margin_at : List ℤ → State → ℕ
margin_at ps NotBegun = 0
margin_at ps (Open k j) = remainders (suc k) ps - j * 2 ^ k
margin_at ps Finished = 0

-- the most questions still to come for the present row: the ones and the planes up to the open one, less its improvements
abbrev pub left_at : List ℤ → State → ℕ
left_at ps NotBegun = 0
left_at ps (Open k j) = ones_below (suc k) ps + suc k - j
left_at ps Finished = 0
