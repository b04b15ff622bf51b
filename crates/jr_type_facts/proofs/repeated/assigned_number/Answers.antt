use Rattle.std.proofs.Common.{◌∙◌, sym, ap}
use Rattle.std.specs.Prelude.{option_and_then}
use Rattle.jr_constants.specs.Values.{seen_if}
use Rattle.jr_type_facts.specs.Cases.{number_of}
use Rattle.jr_type_facts.proofs.Parts.{seen_told}
use Rattle.jr_type_facts.proofs.repeated.assigned_number.Goals as goal

pub returns-in-Some : goal.returns-in-Some
returns-in-Some c = λ texts. c.number_of.ensures ∙ ap (option_and_then number_of) (ap seen_if (sym c.in-Some.is) ∙ c.assigned_to.ensures ∙ seen_told c.args.element texts c.args.value)

pub returns-in-None : goal.returns-in-None
returns-in-None c = λ texts. ap (option_and_then number_of) (ap seen_if (sym c.in-None.is) ∙ c.assigned_to.ensures ∙ seen_told c.args.element texts c.args.value)
