use Rattle.std.proofs.Common.{arith}
use Rattle.std.proofs.lemmas.List.{drop_more, drop_all}
use Rattle.jr_member_faults.proofs.Settled.{names_start, names_next, names_end}
use Rattle.jr_member_faults.proofs.inheriting.left_at_all.Goals as goal

pub loop-name-init : goal.loop-name-init
loop-name-init c = λ h. names_start c.args.beside.world.now h.right c.args.beside.over c.args.names.now c.args.open_names.now

pub loop-name-preserved : goal.loop-name-preserved
loop-name-preserved c = λ h. names_next c.args.beside.world.now h.right c.args.beside.over c.args.names.now _ _ _ _ _ _ _ _ _ (drop_more c.args.names.now c.loop-name.name-index 0 (omega arith)) c.or-left.ensures (c.loop-name.invariant h) (c.in_ok-more.ensures h)

pub returns : goal.returns
returns c = λ h. names_end c.args.beside.world.now h.right c.args.beside.over c.args.names.now _ _ _ _ (drop_all c.loop-name.name-index c.args.names.now (omega arith)) (c.loop-name.invariant h)
