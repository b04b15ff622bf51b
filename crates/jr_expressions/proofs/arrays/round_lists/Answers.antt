use Rattle.std.proofs.Common.{sym, ◌∙◌}
use Rattle.jr_expressions.proofs.Initialized.{lists_none, lists_more, lists_end}
use Rattle.jr_expressions.proofs.arrays.round_lists.Goals as goal

pub loop-depth-init : goal.loop-depth-init
loop-depth-init c = lists_none _ _ _ c.parent-over.ensures

pub loop-depth-preserved : goal.loop-depth-preserved
loop-depth-preserved c = lists_more _ _ _ _ _ c.loop-depth.invariant (rw c.rows.ensures at (sym c.is_list.ensures ∙ c.if-not-is_list.false)) c.parent-over-in-loop-depth.ensures

pub returns-then-not-is_list : goal.returns-then-not-is_list
returns-then-not-is_list c = lists_end _ _ _ _ c.loop-depth.invariant c.loop-depth-test.true (rw c.rows.ensures at (sym c.is_list.ensures ∙ c.if-not-is_list.true))
