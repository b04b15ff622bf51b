use Rattle.std.proofs.Common.{◌∙◌, sym}
use Rattle.jr_rule.specs.declared.Rule.TheVariants as rule
use Rattle.jr_type_facts.specs.Facts.{rows_of, table_of, types_of, constants_of}
use Rattle.jr_type_faults.proofs.Told.{adds, adds_then, only, only_then, operands_at, value_at, variable_at, cast_at, condition_at}
use Rattle.jr_type_faults.proofs.faults.push_values.Goals as goal

pub returns-clause-exact : goal.returns-clause-exact
returns-clause-exact c = λ can. let right = can.right in (adds_then (adds c.args.facts.now.view rule.Operands _ c.args.at c.in_ok-push_if.ensures (λ e. c.operands_do_not_fit.ensures right.seen ∙ sym (operands_at (rows_of c.args.facts.now) (table_of c.args.facts.now) (constants_of c.args.facts.now) (types_of c.args.facts.now) c.args.at)))
    (adds_then (adds c.args.facts.now.view rule.Assignable _ c.args.at c.in_ok-push_if-2.ensures (λ e. c.value_does_not_fit.ensures right ∙ sym (value_at (rows_of c.args.facts.now) (table_of c.args.facts.now) (constants_of c.args.facts.now) (types_of c.args.facts.now) c.args.at)))
    (adds_then (adds c.args.facts.now.view rule.Variable _ c.args.at c.in_ok-push_if-3.ensures (λ e. c.is_no_variable.ensures right.seen ∙ sym (variable_at (rows_of c.args.facts.now) (table_of c.args.facts.now) (constants_of c.args.facts.now) (types_of c.args.facts.now) c.args.at)))
    (adds_then (adds c.args.facts.now.view rule.Cast _ c.args.at c.in_ok-push_if-4.ensures (λ e. c.cast_is_not_allowed.ensures right.seen ∙ sym (cast_at (rows_of c.args.facts.now) (table_of c.args.facts.now) (constants_of c.args.facts.now) (types_of c.args.facts.now) c.args.at)))
    (adds c.args.facts.now.view rule.Condition _ c.args.at c.in_ok-push_if-5.ensures (λ e. c.condition_is_not_boolean.ensures right.seen ∙ sym (condition_at (rows_of c.args.facts.now) (table_of c.args.facts.now) (constants_of c.args.facts.now) (types_of c.args.facts.now) c.args.at)))))))

pub returns-clause-only : goal.returns-clause-only
returns-clause-only c = (only_then (only rule.Operands _ c.args.at c.in_ok-push_if.ensures)
    (only_then (only rule.Assignable _ c.args.at c.in_ok-push_if-2.ensures)
    (only_then (only rule.Variable _ c.args.at c.in_ok-push_if-3.ensures)
    (only_then (only rule.Cast _ c.args.at c.in_ok-push_if-4.ensures)
    (only rule.Condition _ c.args.at c.in_ok-push_if-5.ensures)))))
