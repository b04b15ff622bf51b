use Rattle.std.proofs.Common.{sym, inr, arith}
use Rattle.std.proofs.lemmas.Bool.{false≢true}
use Rattle.std.proofs.lemmas.List.{drop_more, drop_all}
use Rattle.jr_member_faults.specs.Descent.{HasInterfacesAbove}
use Rattle.jr_member_faults.specs.Views.{rows_of, table_of}
use Rattle.jr_member_faults.proofs.Descending.{interfaces_end}
use Rattle.jr_member_faults.proofs.Looped.{each_next}
use Rattle.jr_member_faults.proofs.descent.has_class_above.Goals as goal

pub loop-at-init : goal.loop-at-init
loop-at-init c = λ h s at. inr at

pub returns-then-is : goal.returns-then-is
returns-then-is c = λ h e. absurd (false≢true (sym e))

pub loop-at-preserved : goal.loop-at-preserved
loop-at-preserved c = λ h. each_next c.order-order.result.now _ _ _ (HasInterfacesAbove (rows_of c.args.world.now) (table_of c.args.world.now)) (drop_more c.order-order.result.now c.loop-at.at-index 0 (omega arith)) (c.in_ok-is.ensures h c.if-is.false) (c.loop-at.invariant h)

pub returns : goal.returns
returns c = λ h e. interfaces_end c.args.world.now h c.order-order.result.now _ c.order-order.ensures (drop_all c.loop-at.at-index c.order-order.result.now (omega arith)) (c.loop-at.invariant h)
