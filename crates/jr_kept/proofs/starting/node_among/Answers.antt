use Rattle.std.proofs.Common.{◌≡◌, sym, ◌∙◌, subst, Some}
use Rattle.jr_kept.specs.Started.{node_at}
use Rattle.jr_kept.proofs.starting.node_among.Goals as goal

pub returns-in-Some : goal.returns-in-Some
returns-in-Some c = record { number = c.loop-number.number; is = subst (λ o. node_at c.args.body o ≡ Some c.in-Some.row) c.point_at.ensures (sym c.node_at.ensures ∙ c.in-Some.is) }
