use Rattle.std.proofs.Common.{◌∙◌, sym}
use Rattle.jr_report.specs.Calling.{view_rows}
use Rattle.jr_report.specs.Listed.{table_in}
use Rattle.jr_report.proofs.Seeking.{no_call, no_target, target_if}
use Rattle.jr_report.proofs.calling.calls_one.Goals as goal

pub returns-then-not-is_call : goal.returns-then-not-is_call
returns-then-not-is_call c = no_call (view_rows c.args.view.now) (table_in c.args.view.now.sight.world) c.args.called.now c.args.at (sym c.is_call.ensures ∙ c.if-not-is_call.true)

pub returns-in-Some : goal.returns-in-Some
returns-in-Some c = target_if (view_rows c.args.view.now) (table_in c.args.view.now.sight.world) c.args.called.now c.args.at _ _ (sym c.is_call.ensures ∙ c.if-not-is_call.false) (sym c.declared.ensures ∙ c.in-Some.is) c.has.ensures

pub returns-in-None : goal.returns-in-None
returns-in-None c = no_target (view_rows c.args.view.now) (table_in c.args.view.now.sight.world) c.args.called.now c.args.at (sym c.declared.ensures ∙ c.in-None.is)
