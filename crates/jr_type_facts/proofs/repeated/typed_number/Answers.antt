use Rattle.std.proofs.Common.{◌∙◌, sym, ap}
use Rattle.std.specs.Prelude.{Some, option_and_then}
use Rattle.jr_defs.specs.Operators.{assigned_to}
use Rattle.jr_plain.specs.Conversions.{of_two}
use Rattle.jr_constants.specs.Values.{value_in_if}
use Rattle.jr_type_facts.specs.Views.{constants_in}
use Rattle.jr_type_facts.specs.Cases.{number_of}
use Rattle.jr_type_facts.proofs.repeated.typed_number.Goals as goal

pub returns-in-Some : goal.returns-in-Some
returns-in-Some c = c.value_number.ensures c.args.view.now.constants.now.texts ∙ ap (λ v. option_and_then number_of (of_two assigned_to (Some c.in-Some.plain) (value_in_if c.args.view.now.constants.now.texts v))) c.value.ensures
    ∙ ap (λ o. option_and_then number_of (of_two assigned_to o (constants_in c.args.view.now c.args.at))) (sym c.in-Some.is)
