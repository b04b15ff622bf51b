use Rattle.jr_report.proofs.Seeking.{sought_call, sought_shown}
use Rattle.jr_report.proofs.calling.is_sought.Goals as goal

pub returns-then-calls_one : goal.returns-then-calls_one
returns-then-calls_one c = λ few. sought_call c.args.view.now c.args.sought.called.now c.args.sought.is_to_string c.args.at _ c.if-calls_one.true c.calls_one.ensures

pub returns : goal.returns
returns c = λ few. sought_shown c.args.view.now c.args.sought.called.now c.args.sought.is_to_string c.args.at _ _ c.if-calls_one.false c.calls_one.ensures (c.is_conversion.ensures few)
