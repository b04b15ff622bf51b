use Rattle.std.proofs.Common.{◌≡◌, sym, ◌∙◌, ap, ap₂, subst}
use Rattle.std.specs.List.{list_any}
use Rattle.jr_tree.specs.Rows.{parent}
use Rattle.jr_tree.specs.declared.label.ImportKind.TheVariants as importing
use Rattle.jr_plain.proofs.Imported.{import_below}
use Rattle.jr_places.specs.Names.{name_row}
use Rattle.jr_places.specs.Places.{ArePlaces}
use Rattle.jr_name_faults.specs.Imports.{rows_of, table_of}
use Rattle.jr_name_faults.specs.Statics.{is_clash}
use Rattle.jr_name_faults.proofs.Bringing.{import_is, fault_tells}
use Rattle.jr_name_faults.proofs.statics.Statics.is_fault.Goals as goal

pub returns : goal.returns
returns c = λ world h static listed. let p = rows_of world in let t = table_of world in let i = c.args.import in let own = import_is p importing.StaticSingle i static in let placed = h.tabled.right.seen.placed in
    let unit : c.parent_at-unit.result ≡ parent p i = c.parent_at-unit.ensures ∙ ap (λ w. parent (rows_of w) i) h.world_is in
    let name : c.name-name.result ≡ name_row p i = c.name-name.ensures p (subst (λ w. ArePlaces p w.under.places.now) (sym h.world_is) placed.are) (import_below p (parent p i) importing.StaticSingle i own) in
    c.either.ensures ∙ fault_tells p t i own placed.local c.args.self.now h.types_are h.sources_are c.args.members.now c.is_empty-is_empty.result c.is_any_clash-is_clash.result listed c.is_empty-is_empty.ensures
    (c.is_any_clash-is_clash.ensures ∙ ap (λ w. list_any (is_clash (rows_of w) c.args.self.now c.parent_at-unit.result c.name-name.result i) c.args.members.now) h.world_is
    ∙ ap₂ (λ u x. list_any (is_clash p c.args.self.now u x i) c.args.members.now) unit name)
