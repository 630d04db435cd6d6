use Rattle.std.proofs.Common.{pos, refl, inl}
use Rattle.std.proofs.lemmas.List.{get_or-replicate}
use Rattle.script.proofs.draft.Draft.new.Goals as goal

pub returns : goal.returns
returns c =
    record {
      stage = refl;
      means = record { dimension = refl; reach = inl (tt, refl); listed = c.new.ensures; prices = λ i k. inl (tt, get_or-replicate 128 i (pos 0) (pos 0) k); start = inl (tt, refl) };
    }
