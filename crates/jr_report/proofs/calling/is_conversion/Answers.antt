use Rattle.jr_report.proofs.Seeking.{not_sought, shown_if}
use Rattle.jr_report.proofs.calling.is_conversion.Goals as goal

pub returns-then-not-is_to_string : goal.returns-then-not-is_to_string
returns-then-not-is_to_string c = λ few. not_sought c.args.view.now c.args.is_to_string c.args.at c.if-not-is_to_string.true

pub returns : goal.returns
returns c = λ few. shown_if c.args.view.now c.args.is_to_string c.args.at _ c.if-not-is_to_string.false (c.shows_object.ensures few)
