use Rattle.std.proofs.Common.{◌∙◌, subst}
use Rattle.jr_defs.specs.Referents.{entries}
use Rattle.jr_lookup.specs.Imports.{AreImports}
use Rattle.jr_bind.specs.Filled.{table_of}
use Rattle.jr_bind.proofs.Whole.{under_exact, members_read, found_typed}
use Rattle.jr_bind.proofs.rebinding.made_by.Goals as goal

pub returns-clause-table : goal.returns-clause-table
returns-clause-table c = c.in_ok-find_types.ensures.table ∙ c.in_ok-constants.ensures.table

pub returns-clause-exact : goal.returns-clause-exact
returns-clause-exact c = λ ready supers_are. let filling = c.args.filling.now in let p = c.args.setting.rows.now in let places = c.args.setting.places.now in let supers = c.args.supers.now in
    under_exact p (table_of filling) places supers c.in_ok-members.members.value c.in_ok-constants.constants.value c.find_types.new.self.types.items c.find_constants.new.self.ints.items filling.string supers_are
    (members_read p places supers c.in_ok-members.members.value c.deref.result.now filling.table.items c.deref.ensures.value c.in_ok-members.ensures) c.in_ok-constants.ensures.found
    (λ sized tree. c.in_ok-constants.ensures.ints sized tree ready.ints_size) (λ sized. ready.string_is sized.few)
    (λ constant can. found_typed p constant places supers filling c.find_constants.new.self c.find_types.new.self.types.items
    c.in_ok-constants.ensures.table c.in_ok-constants.ensures.types c.in_ok-constants.ensures.string ready (c.in_ok-find_types.ensures.types constant) can)

pub returns-clause-imports : goal.returns-clause-imports
returns-clause-imports c = λ placed. subst (λ all. AreImports c.args.setting.rows.now (entries all) c.in_ok-imports.imports.value) c.deref.ensures.value (c.in_ok-imports.ensures placed)
