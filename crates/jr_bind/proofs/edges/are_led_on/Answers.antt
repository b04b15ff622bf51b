use Rattle.std.proofs.Common.{◌≡◌, sym, ◌∙◌, subst, inl, inr, arith, ℕ}
use Rattle.std.proofs.lemmas.Bool.{cases_eq, false≢true}
use Rattle.jr_defs.specs.Declarations.{IsType}
use Rattle.jr_bind.specs.Ranked.{rank_in}
use Rattle.jr_bind.specs.Rounds.{IsEdgeIn}
use Rattle.jr_bind.proofs.edges.are_led_on.Goals.{then-are+in_ok-are, else-are}
use Rattle.jr_bind.proofs.edges.are_led_on.Goals as goal

pub loop-at-preserved : goal.loop-at-preserved
loop-at-preserved c = elim c.if-are.branch [
  | then-are+in_ok-are w ↦ λ are n lt. elim (cases_eq n c.loop-at.at) [
    | inl e ↦ subst (λ m. IsType c.args.ranked.now.sight.world.under.rows.now m → (rank_in c.args.ranked.now.ranks.now) m ≡ 0 → (s : ℕ) × IsEdgeIn c.args.edges.now m s) (sym e) (w.in_ok-are.ensures (sym w.are-is ∙ are))
    | inr apart ↦ c.loop-at.invariant w.if-are.true n (omega arith)
  ]
  | else-are w ↦ λ are n lt. absurd (false≢true (sym w.if-are.false ∙ sym w.are-is ∙ are))
]

pub returns : goal.returns
returns c = λ are n lt. c.loop-at.invariant are n (let past = c.loop-at-test.false in omega arith)
