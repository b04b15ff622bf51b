use Rattle.std.proofs.Common.{◌≡◌, refl, sym, ◌∙◌, arith, Some}
use Rattle.jr_name_faults.specs.Imports.{rows_of, table_of, single_type}
use Rattle.jr_name_faults.proofs.Importing.{singles_none, singles_more, class_below}
use Rattle.jr_name_faults.proofs.imports.Imports.pass.Goals as goal

pub returns-in_default : goal.returns-in_default
returns-in_default c = λ p t lt h. let few = h.few in singles_none c.args.self.now h (sym c.in_default.is ∙ c.single_type.ensures (omega arith))

pub returns : goal.returns
returns c = λ p t lt h. let few = h.few in
    let is : Some c.in-Some.class ≡ single_type (rows_of c.args.self.now.world.now) (table_of c.args.self.now.world.now) c.args.at = sym c.in-Some.is ∙ c.single_type.ensures (omega arith) in
    singles_more c.args.self.now _ c.parent_at-unit.result c.name-name.result _ h is c.parent_at-unit.ensures (c.name-name.ensures p h.placed.are (class_below c.args.self.now h _ is)) refl refl c.in_ok-add.ensures
