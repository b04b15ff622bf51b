use Rattle.std.proofs.Common.{sym, ◌∙◌, subst, inl, inr, arith}
use Rattle.std.proofs.lemmas.Bool.{cases_eq, false≢true}
use Rattle.jr_bind.specs.Confirmed.{rows_of, table_of}
use Rattle.jr_bind.specs.Ranked.{IsRankedAt}
use Rattle.jr_bind.proofs.ranking.are_ranked.Goals as goal
use Rattle.jr_bind.proofs.ranking.are_ranked.Goals.{then-are+in_ok-are, else-are}

pub loop-at-preserved : goal.loop-at-preserved
loop-at-preserved c sight = elim c.if-are.branch [
  | then-are+in_ok-are w ↦ λ are n lt. elim (cases_eq n c.loop-at.at) [
    | inl e ↦ subst (λ m. IsRankedAt (rows_of c.args.sight) (table_of c.args.sight) c.args.ranks.now m) (sym e) (w.in_ok-are.ensures sight (sym w.are-is ∙ are))
    | inr apart ↦ c.loop-at.invariant sight w.if-are.true n (omega arith)
  ]
  | else-are w ↦ λ are n lt. absurd (false≢true (sym w.if-are.false ∙ sym w.are-is ∙ are))
]

pub returns : goal.returns
returns c = λ sight are n lt. c.loop-at.invariant sight are n (let past = c.loop-at-test.false in omega arith)
