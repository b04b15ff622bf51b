use Rattle.std.proofs.Common.{◌∙◌, sym}
use Rattle.jr_report.specs.Listed.{rows_in}
use Rattle.jr_report.proofs.Gathering.{not_stamped}
use Rattle.jr_report.proofs.called.is_shown_by.Goals as goal

pub returns-then-not-has : goal.returns-then-not-has
returns-then-not-has c = not_stamped (rows_in c.args.world.now) c.args.called.now c.args.method (sym c.has.ensures ∙ c.if-not-has.true)
