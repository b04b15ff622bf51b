use Rattle.std.proofs.Common.{refl, arith}
use Rattle.std.proofs.lemmas.Result.{on_ok_weaker}
use Rattle.jr_lookup.proofs.Sighting.{import_next, adds_named, adds_unnamed}
use Rattle.jr_name_faults.specs.Imports.{rows_of, table_of}
use Rattle.jr_name_faults.proofs.Bringing.{adds_own}
use Rattle.jr_name_faults.proofs.statics.add_imported.Goals as goal

pub returns-in-Some : goal.returns-in-Some
returns-in-Some c = λ tabled import. let p = rows_of c.args.world.now in let t = table_of c.args.world.now in let placed = tabled.right.seen.placed in let next = import_next p placed.local c.args.import import in
    on_ok_weaker c.add_members.result
    (λ h. adds_own p t c.args.import c.parent_at-unit.result c.name-name.result c.parent_at-unit.ensures (c.name-name.ensures p placed.are (omega arith))
    (adds_named p placed.local t c.args.kind c.parent_at-unit.result c.name-name.result t (record { same = λ i k. refl }) c.args.import import _ c.in-Some.over (c.named_type.ensures tabled.few) c.in-Some.is _ _ h)) (c.add_members.ensures tabled)

pub returns-in-None : goal.returns-in-None
returns-in-None c = λ tabled import. let p = rows_of c.args.world.now in let t = table_of c.args.world.now in let placed = tabled.right.seen.placed in let next = import_next p placed.local c.args.import import in
    adds_own p t c.args.import c.parent_at-unit.result c.name-name.result c.parent_at-unit.ensures (c.name-name.ensures p placed.are (omega arith))
    (adds_unnamed p placed.local t c.args.kind c.parent_at-unit.result c.name-name.result t (record { same = λ i k. refl }) c.args.import import _ (c.named_type.ensures tabled.few) c.in-None.is _ _ refl)
