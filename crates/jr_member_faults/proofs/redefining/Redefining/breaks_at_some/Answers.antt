use Rattle.std.proofs.Common.{sym, inr, arith}
use Rattle.std.proofs.lemmas.Bool.{false≢true}
use Rattle.std.proofs.lemmas.List.{drop_more, drop_all}
use Rattle.jr_member_faults.specs.Nearest.{KeepsAt}
use Rattle.jr_member_faults.specs.Views.{rows_of, table_of}
use Rattle.jr_member_faults.proofs.Looped.{each_next, each_end}
use Rattle.jr_member_faults.proofs.redefining.Redefining.breaks_at_some.Goals as goal

pub loop-over-init : goal.loop-over-init
loop-over-init c = λ h th m s at. inr at

pub returns-then-is : goal.returns-then-is
returns-then-is c = λ h th m e. absurd (false≢true (sym e))

pub loop-over-preserved : goal.loop-over-preserved
loop-over-preserved c = λ h th m. let w = c.args.self.now.world.now in each_next c.args.overs.now _ _ _ (KeepsAt (rows_of w) (table_of w) c.args.method) (drop_more c.args.overs.now c.loop-over.over-index 0 (omega arith)) (c.in_ok-is.ensures h th m c.if-is.false) (c.loop-over.invariant h th m)

pub returns : goal.returns
returns c = λ h th m e. let w = c.args.self.now.world.now in each_end c.args.overs.now _ (KeepsAt (rows_of w) (table_of w) c.args.method) (drop_all c.loop-over.over-index c.args.overs.now (omega arith)) (c.loop-over.invariant h th m)
