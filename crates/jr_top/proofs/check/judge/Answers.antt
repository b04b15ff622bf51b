use Rattle.std.proofs.Common.{ap, map, ◌∙◌}
use Rattle.jr_top.specs.Checking.{front_refuses}
use Rattle.jr_top.proofs.check.judge.Goals as goal

pub returns-in-Ok-paths_of : goal.returns-in-Ok-paths_of
returns-in-Ok-paths_of c = front_refuses c.in-Err.ensures (c.in-Ok-paths_of.ensures ∙ ap (map (λ e. e.0)) c.entries.ensures) c.refusal.ensures
