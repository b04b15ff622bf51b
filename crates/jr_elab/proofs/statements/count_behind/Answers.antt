use Rattle.std.proofs.Common.{◌∙◌, ◌-◌, ap}
use Rattle.jr_elab.proofs.Left.{behind_count}
use Rattle.jr_elab.proofs.statements.count_behind.Goals as goal

pub returns : goal.returns
returns g c = c.saturating_sub.ensures ∙ ap (λ m. m - c.count_before-inside.result) c.len.ensures ∙ behind_count _ _ _ c.count_before-inside.ensures
