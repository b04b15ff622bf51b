use Rattle.std.proofs.Common.{◌∙◌, sym}
use Rattle.jr_type_facts.specs.Views.{rows_in, types_in, constants_in}
use Rattle.jr_type_facts.proofs.Meeting.{number_if, number_else}
use Rattle.jr_type_facts.proofs.repeated.case_number.Goals as goal

pub returns-then-is_case : goal.returns-then-is_case
returns-then-is_case c = λ few small. c.label_number.ensures few small ∙ number_if (rows_in c.args.view.now) (constants_in c.args.view.now) (types_in c.args.view.now) c.args.at (sym c.is_case.ensures ∙ c.if-is_case.true)

pub returns-else-is_case : goal.returns-else-is_case
returns-else-is_case c = λ few small. number_else (rows_in c.args.view.now) (constants_in c.args.view.now) (types_in c.args.view.now) c.args.at (sym c.is_case.ensures ∙ c.if-is_case.false)
