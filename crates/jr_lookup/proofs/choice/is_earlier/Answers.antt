use Rattle.std.proofs.Common.{ap, suc, ◌-◌, length, ◌≡◌, arith, false}
use Rattle.jr_lookup.proofs.Ordering.{walk_start, walk_next, walk_earlier, walk_later, walk_past}
use Rattle.jr_lookup.proofs.choice.is_earlier.Goals as goal

pub loop-turn-init : goal.loop-turn-init
loop-turn-init c = λ t h.
    let counted = c.one_more-turns.ensures in
    let same = ap length c.order.ensures in
    let enough : c.one_more-turns.result - 0 ≡ suc (length c.args.world.supers.now.order.items) = omega (arith, counted, same) in
    let above = h.seen.above in
    walk_start c.args.world.under.rows.now t c.args.over c.args.one c.args.other above.well.headed _ c.args.world.supers.now.order.items _ above.direct above.order enough

pub returns-in-Earlier : goal.returns-in-Earlier
returns-in-Earlier c = λ t h. walk_earlier c.args.world.under.rows.now t c.args.over c.args.one c.args.other _ _ _ c.in-Earlier.is (c.in_ok-step_at.ensures t h) (c.loop-turn.invariant t h)

pub returns-in-Later : goal.returns-in-Later
returns-in-Later c = λ t h. walk_later c.args.world.under.rows.now t c.args.over c.args.one c.args.other _ _ _ c.in-Later.is (c.in_ok-step_at.ensures t h) (c.loop-turn.invariant t h)

pub loop-turn-preserved : goal.loop-turn-preserved
loop-turn-preserved c = λ t h. walk_next c.args.world.under.rows.now t c.args.over c.args.one c.args.other (c.one_more-turns.result - c.loop-turn._turn) _ c.loop-turn.here _ _ (omega arith) c.in-Within.is (c.in_ok-step_at.ensures t h) (c.loop-turn.invariant t h)

pub returns : goal.returns
returns c = λ t h. walk_past c.args.world.under.rows.now t c.args.over c.args.one c.args.other (c.one_more-turns.result - c.loop-turn._turn) _ false (omega arith) (c.loop-turn.invariant t h)
