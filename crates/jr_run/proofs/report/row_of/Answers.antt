use Rattle.std.proofs.Common.{◌∙◌, sym, length}
use Rattle.jr_codes.specs.Reads.{facts, rows_of}
use Rattle.jr_marks.proofs.Firsts.{first_none, first_some}
use Rattle.jr_run.specs.Reports.{is_known_by}
use Rattle.jr_run.proofs.Searched.{fails_more, inside, none_before, passed}
use Rattle.jr_run.proofs.report.row_of.Goals as goal

pub loop-at-init : goal.loop-at-init
loop-at-init c = none_before (is_known_by (rows_of c.args.source.now) (facts c.args.source.now).decl c.args.decl)

pub loop-at-preserved : goal.loop-at-preserved
loop-at-preserved c = fails_more (is_known_by (rows_of c.args.source.now) (facts c.args.source.now).decl c.args.decl) c.loop-at.at c.loop-at.invariant (sym c.is_known_by.ensures ∙ c.if-is_known_by.false)

pub returns-then-is_known_by : goal.returns-then-is_known_by
returns-then-is_known_by c = λ few. sym (first_some (is_known_by (rows_of c.args.source.now) (facts c.args.source.now).decl c.args.decl) (length (rows_of c.args.source.now)) c.loop-at.at
    (inside (rows_of c.args.source.now) _ _ c.loop-at.at c.rows.ensures c.row_count-count.ensures few c.loop-at-test.true) (sym c.is_known_by.ensures ∙ c.if-is_known_by.true) c.loop-at.invariant)

pub returns : goal.returns
returns c = λ few. sym (first_none (is_known_by (rows_of c.args.source.now) (facts c.args.source.now).decl c.args.decl) (length (rows_of c.args.source.now))
    (λ k lt. c.loop-at.invariant k (passed (rows_of c.args.source.now) _ _ k c.loop-at.at c.rows.ensures c.row_count-count.ensures few c.loop-at-test.false lt)))
