use Rattle.std.proofs.Common.{refl, sym, ◌∙◌, ap, subst}
use Rattle.jr_tree.specs.Rows.{parent}
use Rattle.jr_plain.specs.Search.{Lists}
use Rattle.jr_places.specs.Places.{ArePlaces}
use Rattle.jr_lookup.specs.Sights.{AddsSuch}
use Rattle.jr_name_faults.specs.Imports.{rows_of, table_of, IsTabledWorld}
use Rattle.jr_name_faults.specs.Statics.{IsSource}
use Rattle.jr_name_faults.proofs.Bringing.{added_listed, sources_below, statics_more}
use Rattle.jr_name_faults.proofs.statics.Statics.add_row_with.Goals as goal

pub returns : goal.returns
returns c = λ world h none. let p = rows_of world in let t = table_of world in let n = c.args.at in
    let adds : AddsSuch (IsSource p t (parent p n) n) c.args.classes.now.items c.add_types.new.all.items = subst
    (λ w. IsTabledWorld w → AddsSuch (IsSource (rows_of w) (table_of w) (parent (rows_of w) n) n) c.args.classes.now.items c.add_types.new.all.items) h.world_is c.in_ok-add_types.ensures h.tabled in
    let listed : Lists c.as_slice-some.result.now (IsSource p t (parent p n) n) = added_listed _ _ _ none c.as_slice-some.ensures.value adds in
    let below = sources_below p t (parent p n) n c.as_slice-some.result.now listed in
    let places = subst (λ w. ArePlaces p w.under.places.now) (sym h.world_is) h.tabled.right.seen.placed.are in
    statics_more c.args.self.now _ c.parent_at-unit.result c.as_slice-some.result.now h (c.parent_at-unit.ensures ∙ ap (λ w. parent (rows_of w) n) h.world_is) listed refl
    (c.in_ok-add_brought.ensures.types p places below) (c.in_ok-add_brought.ensures.sources p places below)
