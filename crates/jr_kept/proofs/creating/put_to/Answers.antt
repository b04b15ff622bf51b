use Rattle.std.proofs.Common.{sym, ◌∙◌}
use Rattle.std.proofs.lemmas.Option.{none-some}
use Rattle.jr_kept.proofs.creating.put_to.Goals as goal

pub returns-in-Some-clause-kept : goal.returns-in-Some-clause-kept
returns-in-Some-clause-kept c = λ none. absurd (none-some c.in-Some.second (sym none ∙ c.in-Some.is))
