use Rattle.jr_run.proofs.Reported.{added_twice}
use Rattle.jr_run.proofs.report.add_last_line.Goals as goal

pub returns : goal.returns
returns c = λ source. added_twice _ _ _ _ _ (c.in_ok-add_end.ensures source) c.in_ok-push.ensures.items
