use Rattle.std.proofs.Common.{◌≡◌, ℕ, ◌+◌, ◌*◌, ◌^◌, ◌<◌, ◌≤◌, length, ap, ◌∙◌, arith, pow_mono}
use Rattle.std.proofs.lemmas.Nat.{pow-add}
use Rattle.std.proofs.lemmas.Int.Digits.{number_more}
use Rattle.commands.proofs.numbers.number.Goals as goal

wide : (n i : ℕ) → n < 2 ^ (8 * i) → i < 8 → n < 2 ^ 56
wide n i h k = let q : 8 * i ≤ 56 = omega arith in omega (arith, pow_mono q)

longer : (n i b : ℕ) → n < 2 ^ (8 * i) → b < 256 → n * 256 + b < 2 ^ (8 * (i + 1))
longer n i b h k =
    let e : 8 * (i + 1) ≡ 8 * i + 8 = omega arith in
    let p : 2 ^ (8 * (i + 1)) ≡ 2 ^ (8 * i) * 256 = ap (λ (m : ℕ). 2 ^ m) e ∙ pow-add 2 (8 * i) 8 in
    omega arith

pub overflow_mul-n : goal.overflow_mul-n
overflow_mul-n c =
    let h = wide c.loop-byte.n c.loop-byte.byte-index c.loop-byte.invariant.1 (omega arith) in
    omega arith

pub overflow_add-n : goal.overflow_add-n
overflow_add-n c =
    let h = wide c.loop-byte.n c.loop-byte.byte-index c.loop-byte.invariant.1 (omega arith) in
    omega arith

pub loop-byte-preserved : goal.loop-byte-preserved
loop-byte-preserved c =
    let m = number_more 256 _ c.loop-byte.byte-index c.loop-byte-test.true in
    (omega arith, longer c.loop-byte.n c.loop-byte.byte-index _ c.loop-byte.invariant.1 (omega arith))

pub returns-clause-small : goal.returns-clause-small
returns-clause-small c =
    let m : 8 * c.loop-byte.byte-index ≤ 8 * length c.args.bytes.now = omega arith in
    omega (arith, c.loop-byte.invariant.1, pow_mono m)
