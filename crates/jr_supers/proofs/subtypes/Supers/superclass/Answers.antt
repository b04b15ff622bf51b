use Rattle.std.proofs.Common.{sym, ◌∙◌}
use Rattle.jr_supers.proofs.subtypes.Supers.superclass.Goals as goal

pub returns : goal.returns
returns c = λ p t h s. ((λ e. (h.superclasses c.args.at s).0 (sym c.superclass.ensures ∙ e)), (λ k. c.superclass.ensures ∙ (h.superclasses c.args.at s).1 k))
