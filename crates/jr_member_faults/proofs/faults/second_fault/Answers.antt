use Rattle.std.proofs.Common.{refl}
use Rattle.jr_tree.specs.declared.label.Role.TheVariants as role
use Rattle.jr_member_faults.proofs.Told.{second_told, not_of_field, not_of_method, not_of_constructor, type_clash, declared_only}
use Rattle.jr_member_faults.proofs.faults.second_fault.Goals as goal

pub returns-clause-fields : goal.returns-clause-fields
returns-clause-fields c = λ is. second_told c.args.world.now.under.rows.now c.args.at c.args.is_second c.is_clash-is_broken.result c.is_clash-is_broken.ensures.others _ _ role.Field refl not_of_field
    c.args.role c.second_rule-rule.result is c.second_rule-rule.ensures c.in_ok-rule_if.ensures.found c.in_ok-rule_if.ensures.others

pub returns-clause-methods : goal.returns-clause-methods
returns-clause-methods c = λ is. second_told c.args.world.now.under.rows.now c.args.at c.args.is_second c.is_clash-is_broken.result c.is_clash-is_broken.ensures.others _ _ role.Method refl not_of_method
    c.args.role c.second_rule-rule.result is c.second_rule-rule.ensures c.in_ok-rule_if.ensures.found c.in_ok-rule_if.ensures.others

pub returns-clause-constructors : goal.returns-clause-constructors
returns-clause-constructors c = λ is. second_told c.args.world.now.under.rows.now c.args.at c.args.is_second c.is_clash-is_broken.result c.is_clash-is_broken.ensures.others _ _ role.Constructor refl not_of_constructor
    c.args.role c.second_rule-rule.result is c.second_rule-rule.ensures c.in_ok-rule_if.ensures.found c.in_ok-rule_if.ensures.others

pub returns-clause-types : goal.returns-clause-types
returns-clause-types c = λ named. type_clash c.args.world.now.under.rows.now c.args.at c.args.is_second c.is_clash-is_broken.result (c.is_clash-is_broken.ensures.types named) _ _
    c.args.role c.second_rule-rule.result c.second_rule-rule.ensures c.in_ok-rule_if.ensures.found c.in_ok-rule_if.ensures.others

pub returns-clause-others : goal.returns-clause-others
returns-clause-others c = declared_only c.args.role c.second_rule-rule.result _ _ c.second_rule-rule.ensures c.in_ok-rule_if.ensures.others
