use Rattle.std.proofs.Common.{◌≡◌, ◌∙◌, ap, subst, arith, length, map}
use Rattle.std.proofs.lemmas.Result.{IfOk-weaker}
use Rattle.jr_flow.specs.Reached.{step_seen}
use Rattle.jr_kept.specs.Listed.{IsListing}
use Rattle.jr_kept.specs.Spliced.{ends_by, AreTargets}
use Rattle.jr_kept.proofs.Splicing.{targets_listed}
use Rattle.jr_kept.proofs.joined.targets_of.Goals as goal

pub returns : goal.returns
returns c = let steps = map step_seen c.args.graph.now.steps.items in let t = c.args.is_throw in let count : c.len.result ≡ length c.args.graph.now.points.items = omega (arith, c.len.ensures, c.args.graph.now.points.ok.0) in
    IfOk-weaker c.of.result _ _ (λ lists l. subst (λ n. AreTargets lists n steps t) count
    (targets_listed lists c.len.result steps t (subst (IsListing lists 0 c.len.result) (c.deref.ensures.value ∙ c.in_ok-pairs.ensures ∙ ap (λ ss. ends_by t (map step_seen ss)) c.as_slice.ensures.value) l))) c.of.ensures
