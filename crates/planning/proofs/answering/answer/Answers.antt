use Rattle.std.proofs.Common.{◌≡◌, Ok, Err, MatchResult, rules, tests}
use Rattle.planning.specs.Bytes.{refusal_bytes}
use Rattle.planning.proofs.Solving.{answered}
use Rattle.planning.proofs.answering.answer.Goals as goal

pub returns-clause-gives : goal.returns-clause-gives
returns-clause-gives c =
    let k : MatchResult c.plan_script.result (λ u. c.map_err.result ≡ Ok u) (λ e. c.map_err.result ≡ Err (refusal_bytes e)) = search (rules, tests) in
    answered c.args.script.now c.plan_script.result c.map_err.result c.plan_script.ensures.gives k
