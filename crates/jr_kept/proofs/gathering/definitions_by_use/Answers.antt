use Rattle.std.proofs.Common.{subst, arith, length}
use Rattle.std.proofs.lemmas.Result.{IfOk-weaker}
use Rattle.jr_flow.specs.Reached.{steps_of}
use Rattle.jr_kept.specs.Listed.{IsListing}
use Rattle.jr_kept.specs.Gathered.{AreFrom, AreBelow}
use Rattle.jr_kept.proofs.Gathers.{lists_reached}
use Rattle.jr_kept.proofs.gathering.definitions_by_use.Goals as goal

pub returns : goal.returns
returns c = let graph = c.args.graph.now in let first = c.least_row-first.result in let bound = c.row_bound-bound.result in let count = c.saturating_sub.result in
    IfOk-weaker c.of.result _ _ (λ lists l. lists_reached lists first count bound graph.points.items (steps_of graph) c.in_ok-pairs.pairs.items
    (subst (IsListing lists first count) c.deref-3.ensures.value l) c.in_ok-pairs.ensures
    (subst (λ ps. AreFrom ps (length ps) first) c.deref.ensures.value c.least_row-first.ensures)
    (subst (λ ps. AreBelow ps (length ps) bound) c.deref-2.ensures.value c.row_bound-bound.ensures)
    (omega (arith, c.saturating_sub.ensures))) c.of.ensures
