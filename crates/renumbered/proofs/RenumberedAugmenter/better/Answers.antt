use Rattle.std.proofs.Common.{ℕ, take, subst}
use Rattle.augmenter.specs.Questions.{Better}
use Rattle.renumbered.specs.Renumberings.{MemberAbove}
use Rattle.renumbered.proofs.RenumberedAugmenter.better.Goals as goal

pub returns : goal.returns
returns g c =
    let A = g.A.Augmenter in
    let s = c.args.self.now in
    let n = A.dim s.below in
    let P : ℕ → Type 0 = λ k. Better n (A.reaches s.below) (λ x. MemberAbove n (A.Member s.below) (take k s.numbers) x) c.args.prices.now c.args.point.now c.args.out.now c.put.new.out c.put.result in
    subst P c.dimension-n.ensures c.put.ensures
