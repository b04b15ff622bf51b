use Rattle.std.proofs.Common.{arith}
use Rattle.std.proofs.lemmas.List.{drop_more, drop_all}
use Rattle.jr_members.proofs.Each.{item_in}
use Rattle.jr_lookup.specs.Sights.{IsDemanded}
use Rattle.jr_lookup.proofs.Sighting.{gather_start, gather_next, gather_end}
use Rattle.jr_lookup.proofs.simple.Sight.demanded_each.Goals as goal

pub loop-import-init : goal.loop-import-init
loop-import-init c = λ t sight rows. gather_start (IsDemanded c.args.self.now.world.under.rows.now t c.args.unit c.args.name) c.args.imports.now _ c.new-all.ensures.items

pub loop-import-preserved : goal.loop-import-preserved
loop-import-preserved c = λ t sight rows. let here = item_in c.args.imports.now c.loop-import.import-index 0 (omega arith) in
    gather_next (IsDemanded c.args.self.now.world.under.rows.now t c.args.unit c.args.name) c.args.imports.now _ _ _ _ _ (drop_more c.args.imports.now c.loop-import.import-index 0 (omega arith))
    (c.loop-import.invariant t sight rows) here (c.in_ok-add_demanded.ensures t sight (rows.each _ here))

pub returns : goal.returns
returns c = λ t sight rows. gather_end (IsDemanded c.args.self.now.world.under.rows.now t c.args.unit c.args.name) c.args.imports.now _ _ (drop_all c.loop-import.import-index c.args.imports.now (omega arith)) (c.loop-import.invariant t sight rows)
