use Rattle.std.proofs.Common.{◌≡◌, sym, subst, arith, suc, ◌+◌, ◌-◌}
use Rattle.jr_kept.specs.Waiting.{HasRows}
use Rattle.jr_kept.proofs.parts.has_rows.Goals as goal

pub loop-turn-preserved : goal.loop-turn-preserved
loop-turn-preserved c = λ h. let p = c.args.rows.now in let at = c.loop-turn.at in let stop = c.args.end in let lt = c.loop-turn-test.true in let low = c.if-at-end.false in let fits = c.ranges.end.fits in
    let same : c.args.count - c.loop-turn._turn ≡ suc (c.args.count - (c.loop-turn._turn + 1)) = omega (arith, lt) in
    c.loop-turn.invariant (subst (HasRows p at stop) (sym same) (low, subst (λ k. HasRows p k stop (c.args.count - (c.loop-turn._turn + 1))) (c.end_at-at.ensures (omega (arith, low, fits))) h))
