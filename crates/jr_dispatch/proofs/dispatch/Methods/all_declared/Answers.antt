use Rattle.std.proofs.Common.{ap, arith, ◌++◌, flat_map}
use Rattle.std.proofs.lemmas.List.{drop_more, drop_all}
use Rattle.jr_dispatch.specs.Dispatching.{declared_methods}
use Rattle.jr_dispatch.proofs.Edging.{flat_more, flat_end}
use Rattle.jr_dispatch.proofs.dispatch.Methods.all_declared.Goals as goal

pub loop-over-init : goal.loop-over-init
loop-over-init c = λ t h. ap (λ xs. xs ++ flat_map (declared_methods c.args.self.under.rows.now) c.args.overs.now) c.new-all.ensures.items

pub loop-over-preserved : goal.loop-over-preserved
loop-over-preserved c = λ t h. flat_more (declared_methods c.args.self.under.rows.now) _ _ _ _ _ _ (drop_more c.args.overs.now c.loop-over.over-index _ (omega arith)) (c.in_ok-add_declared.ensures t h) (c.loop-over.invariant t h)

pub returns : goal.returns
returns c = λ t h. flat_end (declared_methods c.args.self.under.rows.now) _ _ _ (drop_all c.loop-over.over-index c.args.overs.now (omega arith)) (c.loop-over.invariant t h)
