use Rattle.std.proofs.Common.{◌∙◌, ◌<◌, sym, subst, length}
use Rattle.std.proofs.lemmas.Bool.Decides.{Decides-ltb}
use Rattle.std.proofs.lemmas.Option.{none-some, same_Some}
use Rattle.jr_spell.proofs.spelling.has_target.Goals as goal

pub returns-in-Some : goal.returns-in-Some
returns-in-Some c = λ yes d e. subst (λ k. k < length c.args.rows.now) (same_Some c.in-Some.target d (sym c.in-Some.is ∙ c.target_of.ensures ∙ e)) ((Decides-ltb _ _).0 yes)

pub returns-in-None : goal.returns-in-None
returns-in-None c = λ yes d e. absurd (none-some d (sym c.in-None.is ∙ c.target_of.ensures ∙ e))
