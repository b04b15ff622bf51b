use Rattle.std.proofs.Common.{subst, arith, get_or, IfSome}
use Rattle.std.proofs.lemmas.List.Elements.{Contains-get_or}
use Rattle.std.proofs.lemmas.Result.{err_from_is_err_and}
use Rattle.jr_kept.specs.Started.{ActsAtSomeStart}
use Rattle.jr_kept.proofs.creating.node_among.Goals as goal

pub returns-in-Some-clause-acts : goal.returns-in-Some-clause-acts
returns-in-Some-clause-acts c = λ m seen all. let bodies = c.args.bodies.now in let i = c.loop-body.body-index in let lt = c.loop-body-test.true in let p = c.args.old.now.marks.rows.now in
    subst (λ o. IfSome o (λ row. ActsAtSomeStart p m)) c.in-Some.is (c.in_ok-node.ensures.acts m seen (all (get_or bodies i 0) (Contains-get_or bodies i 0 (omega (arith, lt)))))

pub returns-in_err-node-clause-large : goal.returns-in_err-node-clause-large
returns-in_err-node-clause-large c = λ m seen all. let bodies = c.args.bodies.now in let i = c.loop-body.body-index in let lt = c.loop-body-test.true in
    let q = err_from_is_err_and c.from_residual.result c.from_residual.ensures.1 in rw (q.1, q.2) (c.in_err-node.ensures.large m seen (all (get_or bodies i 0) (Contains-get_or bodies i 0 (omega (arith, lt)))))
