use Rattle.std.proofs.Common.{◌≡◌, sym, ◌∙◌, arith, Some}
use Rattle.jr_name_faults.specs.Imports.{rows_of, table_of, single_type}
use Rattle.jr_name_faults.proofs.Importing.{clash_some, clash_none, class_below}
use Rattle.jr_name_faults.proofs.imports.Imports.has_import_clash.Goals as goal

pub returns-in-Some : goal.returns-in-Some
returns-in-Some c = λ p t lt h. let few = h.few in
    let is : Some c.in-Some.class ≡ single_type (rows_of c.args.self.now.world.now) (table_of c.args.self.now.world.now) c.args.at = sym c.in-Some.is ∙ c.single_type.ensures (omega arith) in
    c.has_clash.ensures p t (class_below c.args.self.now h c.in-Some.class is) h ∙ clash_some c.args.self.now h c.in-Some.class is

pub returns-in-None : goal.returns-in-None
returns-in-None c = λ p t lt h. let few = h.few in clash_none c.args.self.now h (sym c.in-None.is ∙ c.single_type.ensures (omega arith))
