use Rattle.std.proofs.Common.{◌≡◌, ◌∙◌, subst, arith, length, map}
use Rattle.std.proofs.lemmas.Result.{IfOk-weaker}
use Rattle.jr_flow.specs.Reached.{step_seen}
use Rattle.jr_kept.specs.Listed.{IsListing}
use Rattle.jr_kept.specs.Spread.{AreWaysBack}
use Rattle.jr_kept.proofs.Spreads.{back_listed}
use Rattle.jr_kept.proofs.spreading.ways_back.Goals as goal

pub returns : goal.returns
returns c = let steps = c.args.graph.now.steps.items in let count : c.len.result ≡ length c.args.graph.now.points.items = omega (arith, c.len.ensures, c.args.graph.now.points.ok.0) in
    IfOk-weaker c.of.result _ _ (λ lists l. subst (λ n. AreWaysBack lists n (map step_seen steps)) count (back_listed lists c.len.result steps (subst (IsListing lists 0 c.len.result) (c.deref.ensures.value ∙ c.in_ok-pairs.ensures) l))) c.of.ensures
