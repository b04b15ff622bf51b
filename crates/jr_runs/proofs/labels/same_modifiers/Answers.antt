use Rattle.std.proofs.Common.{sym, ◌∙◌}
use Rattle.jr_runs.proofs.Modifiers.{all_same, same_each}
use Rattle.jr_runs.proofs.labels.same_modifiers.Goals as goal

pub returns : goal.returns
returns c = (λ h. all_same c.args.one c.args.other (sym c.eq.ensures ∙ h), λ e. c.eq.ensures ∙ same_each c.args.one c.args.other e)
