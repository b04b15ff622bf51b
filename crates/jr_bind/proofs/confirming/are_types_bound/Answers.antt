use Rattle.std.proofs.Common.{sym, ◌∙◌, subst, inl, inr, arith}
use Rattle.std.proofs.lemmas.Bool.{cases_eq, false≢true}
use Rattle.jr_bind.specs.Confirmed.{IsTypeBoundAt}
use Rattle.jr_bind.proofs.confirming.are_types_bound.Goals as goal
use Rattle.jr_bind.proofs.confirming.are_types_bound.Goals.{then-are+in_ok-are, else-are}

pub loop-at-preserved : goal.loop-at-preserved
loop-at-preserved c can = elim c.if-are.branch [
  | then-are+in_ok-are w ↦ λ are n lt. elim (cases_eq n c.loop-at.at) [
    | inl e ↦ subst (λ m. IsTypeBoundAt c.args.sight m) (sym e) (w.in_ok-are.ensures (can c.loop-at.at c.loop-at-test.true) (sym w.are-is ∙ are))
    | inr apart ↦ c.loop-at.invariant can w.if-are.true n (omega arith)
  ]
  | else-are w ↦ λ are n lt. absurd (false≢true (sym w.if-are.false ∙ sym w.are-is ∙ are))
]
