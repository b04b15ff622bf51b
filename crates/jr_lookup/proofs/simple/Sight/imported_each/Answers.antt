use Rattle.std.proofs.Common.{arith}
use Rattle.std.proofs.lemmas.List.{drop_more, drop_all}
use Rattle.jr_members.proofs.Each.{item_in}
use Rattle.jr_lookup.specs.Sights.{IsNamedBy}
use Rattle.jr_lookup.proofs.Sighting.{gather_start, gather_next, gather_end}
use Rattle.jr_lookup.proofs.simple.Sight.imported_each.Goals as goal

pub loop-import-init : goal.loop-import-init
loop-import-init c = λ t sight rows. gather_start (IsNamedBy c.args.self.now.world.under.rows.now t c.args.kind c.args.unit c.args.name) c.args.imports.now _ c.new-all.ensures.items

pub loop-import-preserved : goal.loop-import-preserved
loop-import-preserved c = λ t sight rows. let here = item_in c.args.imports.now c.loop-import.import-index 0 (omega arith) in
    gather_next (IsNamedBy c.args.self.now.world.under.rows.now t c.args.kind c.args.unit c.args.name) c.args.imports.now _ _ _ _ _ (drop_more c.args.imports.now c.loop-import.import-index 0 (omega arith))
    (c.loop-import.invariant t sight rows) here (c.in_ok-add_imported.ensures t sight (rows.each _ here))

pub returns : goal.returns
returns c = λ t sight rows. gather_end (IsNamedBy c.args.self.now.world.under.rows.now t c.args.kind c.args.unit c.args.name) c.args.imports.now _ _ (drop_all c.loop-import.import-index c.args.imports.now (omega arith)) (c.loop-import.invariant t sight rows)
