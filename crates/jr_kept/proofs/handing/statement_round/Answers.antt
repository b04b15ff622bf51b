use Rattle.std.proofs.Common.{sym, ◌∙◌, ap, ◌+◌, ◌-◌, arith}
use Rattle.jr_flow_defs.specs.Kept.{statement_round}
use Rattle.jr_kept.proofs.Crossing.{statement_turns}
use Rattle.jr_kept.proofs.handing.statement_round.Goals as goal

pub loop-turn-preserved : goal.loop-turn-preserved
loop-turn-preserved c = let lt = c.loop-turn-test.true in let rows = c.args.rows.now in let row = c.args.row in
    c.loop-turn.invariant ∙ statement_turns rows row c.loop-turn._turn c.loop-turn.at _ (omega (arith, lt)) (sym c.is_statement.ensures ∙ c.if-is_statement.false) ∙ ap (λ n. statement_round rows (row - (c.loop-turn._turn + 1)) n) (sym c.parent_at-at.ensures)
