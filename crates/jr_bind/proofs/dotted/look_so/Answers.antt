use Rattle.std.proofs.Common.{sym, ◌∙◌, subst}
use Rattle.jr_bind.specs.Before.{NeedsBefore}
use Rattle.jr_lookup.specs.Calls.{NeedsTypes}
use Rattle.jr_bind.proofs.Dotting.{behind_of}
use Rattle.jr_bind.proofs.dotted.look_so.Goals as goal

pub returns-in-Qualified : goal.returns-in-Qualified
returns-in-Qualified c = λ t see before behind so. c.look_behind.ensures t see (λ v. before (subst NeedsBefore (sym c.in-Qualified.is) v)) (so ∙ c.in-Qualified.is)

pub returns-in_default : goal.returns-in_default
returns-in_default c = λ t see before behind so. c.look.ensures t see (λ needs. behind (behind_of c.args.sought c.in_default.not-Qualified (subst NeedsTypes so needs)))
