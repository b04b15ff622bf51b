use Rattle.std.proofs.Common.{◌≡◌, ◌∙◌, ap₂, sym, arith, length, ◌-◌}
use Rattle.jr_extract.specs.Running.{end_from}
use Rattle.jr_extract.proofs.Counting.{end_none, kept_within, negated}
use Rattle.jr_extract.proofs.Taking.{end_found, end_on, end_over}
use Rattle.jr_extract.proofs.run.end_of_statements.Goals as goal

pub loop-turn-init : goal.loop-turn-init
loop-turn-init c = λ ordered. let none : length c.args.marks.now.rows.now - 0 ≡ length c.args.marks.now.rows.now = omega arith in
    ap₂ (λ block k. end_from c.args.marks.now block c.args.token k c.args.first) c.parent_at-block.ensures none

pub loop-turn-preserved : goal.loop-turn-preserved
loop-turn-preserved c = λ ordered. end_on c.args.marks.now c.parent_at-block.result c.args.token c.loop-turn.at c.end_at-behind.result c.loop-turn._turn _ ordered (omega (arith, c.loop-turn-test.true)) (kept_within _ (sym c.is_past.ensures ∙ c.if-is_past.false)) c.end_at-behind.ensures
    (c.loop-turn.invariant ordered) (sym c.ends_at.ensures ∙ c.if-ends_at.false)

pub returns-then-ends_at : goal.returns-then-ends_at
returns-then-ends_at c = λ ordered. end_found c.args.marks.now c.parent_at-block.result c.args.token c.loop-turn.at c.end_at-behind.result c.loop-turn._turn _ ordered (omega (arith, c.loop-turn-test.true)) (kept_within _ (sym c.is_past.ensures ∙ c.if-is_past.false)) c.end_at-behind.ensures
    (c.loop-turn.invariant ordered) (sym c.ends_at.ensures ∙ c.if-ends_at.true)

pub returns-then-is_past : goal.returns-then-is_past
returns-then-is_past c = λ ordered. sym (end_none c.args.marks.now c.parent_at-block.result c.args.token (length c.args.marks.now.rows.now - c.loop-turn._turn) c.loop-turn.at (negated _ (sym c.is_past.ensures ∙ c.if-is_past.true))) ∙ c.loop-turn.invariant ordered

pub returns : goal.returns
returns c = λ ordered. end_over c.args.marks.now c.parent_at-block.result c.args.token c.loop-turn.at (length c.args.marks.now.rows.now - c.loop-turn._turn) _ (omega arith) (c.loop-turn.invariant ordered)
