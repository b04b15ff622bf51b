use Rattle.std.proofs.Common.{◌∙◌, sym, subst}
use Rattle.jr_spell.specs.Spellers.{rows_of, IsKnown}
use Rattle.jr_spell.proofs.speller.Speller.reference_with.Goals as goal

pub returns-in_default-clause-whole : goal.returns-in_default-clause-whole
returns-in_default-clause-whole c = λ whole sought lt known. c.reference_to.ensures.whole whole c.referent-lock.ensures sought lt (subst (IsKnown (rows_of c.args.self.now)) (sym c.referent-lock.ensures) known)

pub returns-in-Unbound-clause-there : goal.returns-in-Unbound-clause-there
returns-in-Unbound-clause-there c = λ lock. absurd (lock.bound (sym c.referent-lock.ensures ∙ c.in-Unbound.is))

pub returns-in-Ambiguous-clause-there : goal.returns-in-Ambiguous-clause-there
returns-in-Ambiguous-clause-there c = λ lock. absurd (lock.one (sym c.referent-lock.ensures ∙ c.in-Ambiguous.is))
