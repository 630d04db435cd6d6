use Rattle.std.proofs.Common.{ℕ, ◌-◌, ap, subst, arith}
use lib.Count.{count_leading_zeros}
use Rattle.rows.specs.Prices.{Digits}
use Rattle.rows.proofs.Planes.{digits_of, few_planes}
use Rattle.rows.proofs.prices.planes.Goals as goal

pub returns-clause-digits : goal.returns-clause-digits
returns-clause-digits c =
    let D : ℕ → Type 0 = λ n. Digits n (64 - count_leading_zeros 64 c.largest_magnitude.result) in
    subst D c.largest_magnitude.ensures (digits_of c.largest_magnitude.result c.largest_magnitude.type_inv)

pub returns-clause-few : goal.returns-clause-few
returns-clause-few c = λ h. omega (arith, few_planes c.args.prices.now h, ap (λ (n : ℕ). 64 - count_leading_zeros 64 n) c.largest_magnitude.ensures)
