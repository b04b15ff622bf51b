use Rattle.std.proofs.Common.{◌∙◌}
use Rattle.jr_rule.specs.declared.Rule.TheVariants as rule
use Rattle.jr_faults.proofs.Told.{told_at}
use Rattle.jr_member_faults.specs.Views.{rows_of, table_of}
use Rattle.jr_member_faults.proofs.Constructed.{constructor_told}
use Rattle.jr_member_faults.proofs.Doubled.{field_told, method_told, type_told}
use Rattle.jr_member_faults.proofs.Tables.{declared_more}
use Rattle.jr_member_faults.proofs.faults.declared_faults.Goals as goal

pub returns-clause-open : goal.returns-clause-open
returns-clause-open c = λ lt h. declared_more c.args.world.now c.args.at c.args.declared.now c.entry.new.self _ c.role_at-role.result _ lt h c.role_at-role.ensures
    c.in_ok-entry.ensures.found c.in_ok-entry.ensures.numbered c.in_ok-entry.ensures.kept c.in_ok-entry.ensures.tables
    c.in_ok-add.ensures.types c.in_ok-add.ensures.fields c.in_ok-add.ensures.methods c.in_ok-add.ensures.constructors c.in_ok-add.ensures.lists

pub returns-clause-fields : goal.returns-clause-fields
returns-clause-fields c = λ lt h named. told_at rule.FieldNames c.args.at
    (field_told (rows_of c.args.world.now) c.args.world.now.members.now.callables.signatures c.args.at lt c.entry.new.self c.role_at-role.result _ c.has-is_second.result c.role_at-role.ensures
    (c.in_ok-entry.ensures.tables.fields ∙ h.fields named) (c.in_ok-entry.ensures.found named lt) c.has-is_second.ensures)
    (c.in_ok-second_fault.ensures.fields c.role_at-role.ensures)

pub returns-clause-methods : goal.returns-clause-methods
returns-clause-methods c = λ lt h named signed. told_at rule.MethodSignatures c.args.at
    (method_told (rows_of c.args.world.now) (table_of c.args.world.now) c.args.world.now.members.now.callables.signatures signed c.args.at lt c.entry.new.self c.role_at-role.result _ c.has-is_second.result c.role_at-role.ensures
    (c.in_ok-entry.ensures.tables.methods ∙ h.methods named) (c.in_ok-entry.ensures.found named lt) c.has-is_second.ensures)
    (c.in_ok-second_fault.ensures.methods c.role_at-role.ensures)

pub returns-clause-constructors : goal.returns-clause-constructors
returns-clause-constructors c = λ lt h signed. let k = h.constructors signed in told_at rule.ConstructorSignatures c.args.at
    (constructor_told (rows_of c.args.world.now) (table_of c.args.world.now) c.args.at c.args.declared.now.lists c.args.declared.now.constructors k lt c.entry.new.self.lists c.entry.new.self c.role_at-role.result _ c.has-is_second.result c.role_at-role.ensures
    c.in_ok-entry.ensures.tables.constructors (λ e. c.in_ok-entry.ensures.numbered signed e k.counted) c.has-is_second.ensures)
    (c.in_ok-second_fault.ensures.constructors c.role_at-role.ensures)

pub returns-clause-types : goal.returns-clause-types
returns-clause-types c = λ lt h named. told_at rule.TypeNames c.args.at
    (type_told (rows_of c.args.world.now) c.args.world.now.members.now.callables.signatures c.args.at lt c.entry.new.self c.role_at-role.result _ c.has-is_second.result c.role_at-role.ensures
    (c.in_ok-entry.ensures.tables.types ∙ h.types named) (c.in_ok-entry.ensures.found named lt) c.has-is_second.ensures)
    (c.in_ok-second_fault.ensures.types named)

pub returns-clause-others : goal.returns-clause-others
returns-clause-others c = c.in_ok-second_fault.ensures.others
