use Rattle.std.proofs.Common.{refl}
use Rattle.jr_report.proofs.Referring.{if_ok_so}
use Rattle.jr_report.proofs.Seeking.{callers_listed}
use Rattle.jr_report.proofs.calling.callers.Goals as goal

pub returns : goal.returns
returns c = λ whole method. if_ok_so c.all_callers.result (λ all lists. callers_listed c.args.view.now c.in_ok-called.called c.in_ok-is_to_string.is_to_string c.args.method (c.in_ok-called.ensures whole method) (c.in_ok-is_to_string.ensures whole) all.items all.items refl lists)
    (c.all_callers.ensures whole.world_is.seen.placed.local.tree)
