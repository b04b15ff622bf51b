use Rattle.std.proofs.Common.{sym, ◌∙◌}
use Rattle.jr_kept.proofs.Begun.{same_row}
use Rattle.jr_kept.proofs.starting.is_started.Goals as goal

pub returns : goal.returns
returns c = λ e. sym c.initialized_by.ensures ∙ same_row c.initialized_by.result c.args.class (sym c.is_same.ensures ∙ e)
