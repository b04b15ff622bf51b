use Rattle.std.proofs.Common.{◌≡◌, ◌+◌, ◌∙◌, ap, ap₂, arith}
use Rattle.std.specs.Prelude.{option_and_then}
use Rattle.jr_defs.specs.Operators.{assigned_to}
use Rattle.jr_plain.specs.Conversions.{of_two}
use Rattle.jr_type_facts.specs.Views.{rows_in, types_in, constants_in}
use Rattle.jr_type_facts.specs.Cases.{number_of, element_of}
use Rattle.jr_type_facts.proofs.repeated.label_number.Goals as goal

pub returns-in-Some : goal.returns-in-Some
returns-in-Some c = λ few small. let next : c.in-Some.next ≡ c.args.at + 1 = omega arith in c.typed_number.ensures
    ∙ ap₂ (λ e n. option_and_then number_of (of_two assigned_to e (constants_in c.args.view.now n))) (c.element_of.ensures few ∙ ap (element_of (rows_in c.args.view.now) (types_in c.args.view.now)) c.switch_of-switch.ensures) next

pub returns-in-None : goal.returns-in-None
returns-in-None c = λ few small. absurd (omega arith)
