use Rattle.std.proofs.Common.{inl, inr, ⊎_elim}
use Rattle.std.proofs.lemmas.Bool.Decides.{Decides-eqb}
use Rattle.jr_supers.proofs.subtypes.Supers.is_at_or_above.Goals as goal

pub returns-then-at-over : goal.returns-then-at-over
returns-then-at-over c = λ t h. ((λ e. inl c.if-at-over.true), (λ k. (Decides-eqb c.args.at c.args.over).1 c.if-at-over.true))

pub returns-else-at-over : goal.returns-else-at-over
returns-else-at-over c = λ t h. let d = c.is_above-above.ensures.above t h in ((λ e. inr (d.0 e)), ⊎_elim (λ e. absurd (c.if-at-over.false e)) (λ k. d.1 k))
