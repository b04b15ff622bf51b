use Rattle.std.proofs.Common.{sym, ◌∙◌, ap, ◌+◌, ◌-◌, arith}
use Rattle.jr_flow_defs.specs.Kept.{whole_name}
use Rattle.jr_kept.proofs.Naming.{whole_turns}
use Rattle.jr_kept.proofs.names.node_of.Goals as goal

pub loop-turn-preserved : goal.loop-turn-preserved
loop-turn-preserved c = let lt = c.loop-turn-test.true in let rows = c.args.rows.now in let row = c.args.row in
    c.loop-turn.invariant ∙ whole_turns rows row c.loop-turn._turn c.loop-turn.at (omega (arith, lt)) (sym c.is_qualifier.ensures ∙ c.if-not-is_qualifier.false) ∙ ap (λ n. whole_name rows (row - (c.loop-turn._turn + 1)) n) (sym c.parent_at-at.ensures)
