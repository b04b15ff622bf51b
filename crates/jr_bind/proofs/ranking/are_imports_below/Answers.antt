use Rattle.std.proofs.Common.{sym, ◌∙◌, subst, inl, inr, arith, ◌+◌, slice_index_or}
use Rattle.std.proofs.lemmas.Bool.{cases_eq, false≢true}
use Rattle.jr_defs.specs.Referents.{entries}
use Rattle.jr_bind.specs.Ranked.{AreBelow}
use Rattle.jr_bind.proofs.Ranked.{each_below}
use Rattle.jr_bind.proofs.ranking.are_imports_below.Goals as goal
use Rattle.jr_bind.proofs.ranking.are_imports_below.Goals.{then-are, else-are}

pub loop-import-preserved : goal.loop-import-preserved
loop-import-preserved c = elim c.if-are.branch [
  | then-are w ↦ λ are k lt. elim (cases_eq k c.loop-import.import-index) [
    | inl e ↦ subst (λ m. AreBelow c.args.under.rows.now (entries c.args.under.table.now) c.args.ranks.now c.args.bound (slice_index_or c.args.imports.now m 0 + 1)) (sym e) (w.is_import_below-are.ensures (sym w.are-is ∙ are))
    | inr apart ↦ c.loop-import.invariant w.if-are.true k (omega arith)
  ]
  | else-are w ↦ λ are k lt. absurd (false≢true (sym w.if-are.false ∙ sym w.are-is ∙ are))
]

pub returns : goal.returns
returns c = λ are. each_below c.args.under.rows.now (entries c.args.under.table.now) c.args.ranks.now c.args.bound c.args.imports.now (λ k lt. c.loop-import.invariant are k (let past = c.loop-import-test.false in omega arith))
