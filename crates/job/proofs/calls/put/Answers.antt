use Rattle.std.proofs.Common.{rules}
use Rattle.std.proofs.lemmas.List.{take-map}
use Rattle.job.proofs.Questions.{put_found, put_nothing, put_refused}
use Rattle.job.proofs.calls.put.Goals as goal

pub returns-in-Found : goal.returns-in-Found
returns-in-Found g c =
    let L = g.met.A.Augmenter in
    let few = L.dim_fits c.args.below.now in
    put_found
    _ _ (g.A.Augmenter.Member c.args.below.now) _ _ _ _ _ _ (search (rules, take-map)) (search rules) (search rules) _ _
    (L.member_is_point c.args.below.now) c.in-Found.is c.in_ok-better.ensures

pub returns-in-Nothing : goal.returns-in-Nothing
returns-in-Nothing g c =
    let few = g.met.A.Augmenter.dim_fits c.args.below.now in
    put_nothing
    _ _ (g.A.Augmenter.Member c.args.below.now) _ _ _ _ _ _ (search (rules, take-map)) (search rules) (search rules) _ c.in-Nothing.is c.in_ok-better.ensures

pub returns-in_err-better : goal.returns-in_err-better
returns-in_err-better g c =
    let few = g.met.A.Augmenter.dim_fits c.args.below.now in
    put_refused
    _ _ (g.A.Augmenter.Member c.args.below.now) _ _ _ _ _ _ (search (rules, take-map)) (search rules) (search rules) _ c.from_residual.result (search rules) c.in_err-better.ensures
