-- The bytes of a plan: eight commands one after the other, 46 bytes.
-- Numbers stand with their high byte first.
use Rattle.std.specs.Prelude.{ℕ, List, [], ◌∷◌}
use Rattle.std.specs.List.{flat_map}
use Rattle.rows.specs.Bytes.{big_endian, signed_bytes}
use Rattle.commands.specs.Commands.{Said, bytes}
use Rattle.plans.specs.declared.Plan.{Plan}

-- K kind letter, N dimension, J job number, X packed point, M price, Q questions asked, I improvements, Z
abbrev pub plan_commands : Plan → List Said
plan_commands p =
    (75, p.kind ∷ []) ∷
    (78, p.dimension ∷ []) ∷
    (74, big_endian 4 p.number) ∷
    (88, p.point) ∷
    (77, signed_bytes 8 p.price) ∷
    (81, big_endian 4 p.asked) ∷
    (73, big_endian 4 p.improved) ∷
    (90, []) ∷
    []

abbrev pub plan_bytes : Plan → List ℕ
plan_bytes p = flat_map bytes (plan_commands p)
