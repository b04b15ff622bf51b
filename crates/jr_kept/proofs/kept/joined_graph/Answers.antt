use Rattle.std.proofs.Common.{sym, ◌∙◌, subst}
use Rattle.std.proofs.lemmas.Result.{err_from_is_err_and}
use Rattle.jr_flow_defs.specs.Edges.{IsGraph}
use Rattle.jr_flow_defs.specs.Kept.{joined_flow}
use Rattle.jr_flow.specs.Reached.{steps_of}
use Rattle.jr_kept.proofs.kept.joined_graph.Goals as goal

pub returns-clause-graph : goal.returns-clause-graph
returns-clause-graph c = λ w method seen few inner other. let p = c.args.locked.now.marks.rows.now in let body = c.args.body in let call = c.args.call in
    let outer = c.in_ok-outer.ensures.graph w seen few in let made = c.in_ok-joined.joined in
    let is = c.in_ok-joined.ensures p w outer.1 inner.1 (λ e. other (sym outer.0 ∙ e ∙ inner.0)) in (
      is.0 ∙ outer.0,
      subst (λ n. IsGraph (joined_flow p w body call n) body made.points.items (steps_of made)) inner.0 (subst (λ n. IsGraph (joined_flow p w n call c.args.inner.now.body) n made.points.items (steps_of made)) outer.0 is.1),
    )

pub returns-in_err-outer-clause-large : goal.returns-in_err-outer-clause-large
returns-in_err-outer-clause-large c = λ w seen few. let q = err_from_is_err_and c.from_residual.result c.from_residual.ensures.1 in rw (q.1, q.2) (c.in_err-outer.ensures.large w seen few)
