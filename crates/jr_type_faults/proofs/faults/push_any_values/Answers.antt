use Rattle.std.proofs.Common.{◌∙◌, sym, ap}
use Rattle.jr_type_faults.specs.Faults.{values}
use Rattle.jr_type_faults.specs.Groups.{may_break_values}
use Rattle.jr_type_faults.proofs.Told.{only_start}
use Rattle.jr_type_faults.proofs.Passing.{values_passed}
use Rattle.jr_type_faults.proofs.faults.push_any_values.Goals as goal

pub returns-then-not-may_break_values-clause-exact : goal.returns-then-not-may_break_values-clause-exact
returns-then-not-may_break_values-clause-exact c = λ can. values_passed c.args.facts.now.view c.args.at c.args.out.now.items (ap (λ q. may_break_values q c.args.at) (sym c.rows.ensures) ∙ sym c.may_break_values.ensures ∙ c.if-not-may_break_values.true)

pub returns-then-not-may_break_values-clause-only : goal.returns-then-not-may_break_values-clause-only
returns-then-not-may_break_values-clause-only c = only_start values c.args.out.now.items
