use Rattle.std.proofs.Common.{arith}
use Rattle.std.proofs.lemmas.List.{drop_more, drop_all}
use Rattle.jr_members.proofs.Adding.{ups_start, ups_next, ups_end}
use Rattle.jr_member_faults.specs.Views.{rows_of, table_of}
use Rattle.jr_member_faults.proofs.names.push_further.Goals as goal

pub loop-from-init : goal.loop-from-init
loop-from-init c = λ h. ups_start (rows_of c.args.world.now) (table_of c.args.world.now) c.args.linked c.args.direct.now _

pub loop-from-preserved : goal.loop-from-preserved
loop-from-preserved c = λ h. ups_next (rows_of c.args.world.now) (table_of c.args.world.now) c.args.linked c.args.direct.now _ _ _ _ _ _ (drop_more c.args.direct.now c.loop-from.from-index 0 (omega arith)) (c.loop-from.invariant h) (c.in_ok-push_up.ensures h)

pub returns : goal.returns
returns c = λ h. ups_end (rows_of c.args.world.now) (table_of c.args.world.now) c.args.linked c.args.direct.now _ _ _ (drop_all c.loop-from.from-index c.args.direct.now (omega arith)) (c.loop-from.invariant h)
