use Rattle.std.proofs.Common.{ap, arith, ◌++◌, flat_map}
use Rattle.std.proofs.lemmas.List.{drop_more, drop_all}
use Rattle.jr_dispatch.specs.Families.{declared_like}
use Rattle.jr_member_faults.proofs.Looped.{flat_more, flat_end}
use Rattle.jr_member_faults.specs.Views.{rows_of, table_of}
use Rattle.jr_member_faults.proofs.redefining.all_like.Goals as goal

pub loop-over-init : goal.loop-over-init
loop-over-init c = λ h m. ap (λ xs. xs ++ flat_map (declared_like (rows_of c.args.world.now) (table_of c.args.world.now) c.args.method) c.args.overs.now) c.new-all.ensures.items

pub loop-over-preserved : goal.loop-over-preserved
loop-over-preserved c = λ h m. flat_more (declared_like (rows_of c.args.world.now) (table_of c.args.world.now) c.args.method) _ _ _ _ _ _ (drop_more c.args.overs.now c.loop-over.over-index _ (omega arith)) (c.in_ok-add_like.ensures h m) (c.loop-over.invariant h m)

pub returns : goal.returns
returns c = λ h m. flat_end (declared_like (rows_of c.args.world.now) (table_of c.args.world.now) c.args.method) _ _ _ (drop_all c.loop-over.over-index c.args.overs.now (omega arith)) (c.loop-over.invariant h m)
