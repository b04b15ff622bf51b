use Rattle.std.proofs.Common.{sym, ◌∙◌, subst}
use Rattle.std.proofs.lemmas.Result.{IfOk-weaker}
use Rattle.jr_flow_defs.specs.Kept.{joined_flow}
use Rattle.jr_flow.specs.Reached.{steps_of}
use Rattle.jr_kept.specs.Spliced.{IsLooseGraph}
use Rattle.jr_kept.proofs.Joining.{loose_graph}
use Rattle.jr_kept.proofs.Pruning.{pruned_graph}
use Rattle.jr_kept.proofs.joined.joined.Goals as goal

pub returns : goal.returns
returns c = λ p m before method other. let outer = c.args.outer.now in let inner = c.args.inner.now in let whole = c.in_ok-whole.whole in let is = c.in_ok-whole.ensures in let flow = joined_flow p m outer.body c.args.call inner.body in
    IfOk-weaker c.without_unreached.result _ _ (λ made h. (
      h.0 ∙ is.0,
      pruned_graph flow outer.body whole.points.items (steps_of whole)
          (subst (λ points. IsLooseGraph flow outer.body points (steps_of whole)) (sym is.1.points_are)
          (loose_graph p m outer.body c.args.call inner.body other outer.points.items inner.points.items (steps_of outer) (steps_of inner) before method (steps_of whole) is.1.steps_are))
          made.points.items (steps_of made) h.1,
    )) c.without_unreached.ensures
