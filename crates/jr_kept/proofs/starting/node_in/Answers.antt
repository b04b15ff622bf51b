use Rattle.std.proofs.Common.{subst, IfSome}
use Rattle.std.proofs.lemmas.Result.{err_from_is_err_and}
use Rattle.jr_flow_defs.specs.Edges.{body_flow, IsGraph}
use Rattle.jr_flow.specs.Reached.{steps_of}
use Rattle.jr_kept.specs.Started.{IsNodeAmong}
use Rattle.jr_kept.proofs.Begun.{acting_told}
use Rattle.jr_kept.proofs.starting.node_in.Goals as goal

pub returns-clause-acts : goal.returns-clause-acts
returns-clause-acts c = λ m seen few. let p = c.args.old.now.marks.rows.now in let body = c.args.body in let flow = c.in_ok-flow.flow in let made = c.in_ok-flow.ensures.graph m seen few in
    acting_told p m body flow.points.items (steps_of flow) (subst (λ n. IsGraph (body_flow p m n) n flow.points.items (steps_of flow)) made.0 made.1) c.node_among.result
    (subst (λ ps. IfSome c.node_among.result (λ row. IsNodeAmong ps body row)) c.as_slice.ensures.value c.node_among.ensures)

pub returns-in_err-flow-clause-large : goal.returns-in_err-flow-clause-large
returns-in_err-flow-clause-large c = λ m seen few. let q = err_from_is_err_and c.from_residual.result c.from_residual.ensures.1 in rw (q.1, q.2) (c.in_err-flow.ensures.large m seen few)
