use Rattle.std.proofs.Common.{◌∙◌, sym, arith, nat_le}
use Rattle.jr_marks.proofs.Cuts.{more_fails}
use Rattle.jr_extract.specs.Running.{begins_statement}
use Rattle.jr_extract.proofs.Taking.{statement_found, statement_none}
use Rattle.jr_extract.proofs.run.statement_at.Goals as goal

pub loop-at-preserved : goal.loop-at-preserved
loop-at-preserved c = more_fails (λ k. nat_le c.unit_row-top.result k) (λ k. begins_statement c.args.marks.now c.args.token k) c.loop-at.at c.loop-at.invariant (sym c.begins_statement.ensures ∙ c.if-begins_statement.false)

pub returns-then-begins_statement : goal.returns-then-begins_statement
returns-then-begins_statement c = λ ordered lt. statement_found c.args.marks.now c.args.unit c.args.token c.unit_row-top.result c.end_at-at-end.result ordered lt c.unit_row-top.ensures c.end_at-at-end.ensures c.loop-at.at (omega arith) (omega arith)
    (sym c.begins_statement.ensures ∙ c.if-begins_statement.true) c.loop-at.invariant

pub returns : goal.returns
returns c = λ ordered lt. statement_none c.args.marks.now c.args.unit c.args.token c.unit_row-top.result c.end_at-at-end.result ordered lt c.unit_row-top.ensures c.end_at-at-end.ensures (λ k below. c.loop-at.invariant k (omega arith))
