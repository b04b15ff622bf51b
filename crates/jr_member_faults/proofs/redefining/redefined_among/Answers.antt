use Rattle.std.proofs.Common.{ap, arith, ◌++◌, filter}
use Rattle.std.proofs.lemmas.List.{drop_more, drop_all}
use Rattle.jr_plain.specs.Overriding.{overriding}
use Rattle.jr_members.proofs.Each.{filter_next, filter_end, item_in}
use Rattle.jr_member_rules.specs.Redefining.{redefines}
use Rattle.jr_member_faults.specs.Views.{rows_of, table_of}
use Rattle.jr_member_faults.proofs.Overridden.{redefines_is}
use Rattle.jr_member_faults.proofs.redefining.redefined_among.Goals as goal

pub loop-other-init : goal.loop-other-init
loop-other-init c = λ h same. ap (λ xs. xs ++ filter (redefines (rows_of c.args.world.now) (table_of c.args.world.now) (overriding (rows_of c.args.world.now) (table_of c.args.world.now)) c.args.method) c.args.like.now) c.new-all.ensures.items

pub loop-other-preserved : goal.loop-other-preserved
loop-other-preserved c = λ h same. filter_next (redefines (rows_of c.args.world.now) (table_of c.args.world.now) (overriding (rows_of c.args.world.now) (table_of c.args.world.now)) c.args.method) c.args.like.now _ _ _ _ _ _
    (drop_more c.args.like.now c.loop-other.other-index 0 (omega arith))
    (redefines_is (rows_of c.args.world.now) (table_of c.args.world.now) h.whole.world_is.seen.above.well.headed c.args.method _ _ (c.in_ok-is_such.ensures h (same _ (item_in c.args.like.now c.loop-other.other-index 0 (omega arith)))))
    c.in_ok-push_if.ensures (c.loop-other.invariant h same)

pub returns : goal.returns
returns c = λ h same. filter_end (redefines (rows_of c.args.world.now) (table_of c.args.world.now) (overriding (rows_of c.args.world.now) (table_of c.args.world.now)) c.args.method) c.args.like.now _ _ (drop_all c.loop-other.other-index c.args.like.now (omega arith)) (c.loop-other.invariant h same)
