use Rattle.std.proofs.Common.{◌≡◌, ◌∙◌, sym, ap, arith, nat_le, ◌&&◌}
use Rattle.std.specs.Prelude.{unwrap_or}
use Rattle.jr_tree.specs.Rows.{end}
use Rattle.jr_draft.specs.Packages.{is_no_import}
use Rattle.jr_marks.proofs.Firsts.{first_none, first_some}
use Rattle.jr_marks.proofs.Cuts.{from_passes, more_fails}
use Rattle.jr_draft.proofs.packages.behind_imports.Goals as goal

pub loop-at-preserved : goal.loop-at-preserved
loop-at-preserved c = more_fails (λ k. nat_le c.args.first k) (λ k. is_no_import c.args.rows.now c.args.unit k) c.loop-at.at c.loop-at.invariant (sym c.is_no_import.ensures ∙ c.if-is_no_import.false)

pub returns-then-is_no_import : goal.returns-then-is_no_import
returns-then-is_no_import c = λ fits. let e = c.end_at-end.ensures fits in
    sym (ap (λ found. unwrap_or found (end c.args.rows.now c.args.unit)) (first_some (λ k. nat_le c.args.first k && is_no_import c.args.rows.now c.args.unit k) (end c.args.rows.now c.args.unit) c.loop-at.at (omega arith)
    (from_passes c.args.first c.loop-at.at _ (omega arith) (sym c.is_no_import.ensures ∙ c.if-is_no_import.true)) c.loop-at.invariant))

pub returns : goal.returns
returns c = λ fits. let e = c.end_at-end.ensures fits in
    e ∙ sym (ap (λ found. unwrap_or found (end c.args.rows.now c.args.unit)) (first_none (λ k. nat_le c.args.first k && is_no_import c.args.rows.now c.args.unit k) (end c.args.rows.now c.args.unit) (λ k lt. c.loop-at.invariant k (omega arith))))
