use Rattle.std.proofs.Common.{sym, subst}
use Rattle.jr_bind.specs.Before.{NeedsBefore, NeedsBehind}
use Rattle.jr_bind.proofs.dotted.look_at.Goals as goal

pub returns : goal.returns
returns c = λ t see before behind. c.look_so.ensures t see (λ n. before (subst NeedsBefore c.sought_at-sought.ensures n)) (λ n. behind (subst NeedsBehind c.sought_at-sought.ensures n)) (sym c.sought_at-sought.ensures)
