use Rattle.std.proofs.Common.{sym, ◌∙◌, rules}
use denote.Enum.Bare.{same_true, true_same}
use Rattle.jr_base.specs.contracts.kind.Keyword.{the_type}
use Rattle.jr_runs.proofs.kinds.same_keyword.Goals as goal

pub returns : goal.returns
returns c = (λ h. same_true the_type (search rules) c.args.one c.args.other (sym c.eq.ensures ∙ h), λ e. c.eq.ensures ∙ true_same the_type c.args.one c.args.other e)
