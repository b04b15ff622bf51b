use Rattle.std.proofs.Common.{◌+◌, ◌<◌, ◌≤◌, drop, length, arith}
use Rattle.std.proofs.lemmas.Bool.Decides.{not_from_Decides}
use Rattle.std.proofs.lemmas.List.{length-take-le}
use Rattle.jr_index.proofs.Adding.{rest_is}
use Rattle.jr_front.proofs.Placing.{counted_more, first_is, not_all_placed, saturated}
use Rattle.jr_front.proofs.placed.first_misplaced_of.Goals as goal

pub returns-then-not-is_placed-clause-placed : goal.returns-then-not-is_placed-clause-placed
returns-then-not-is_placed-clause-placed c =
    let at = c.loop-placed.placed-index in
    let e = rest_is c.args.units.now at c.placed-item.result c.loop-placed-test.true c.placed-item.is in
    (λ e. cc, λ all. absurd (not_all_placed c.args.units.now at c.placed-item.result (drop (at + 1) c.args.units.now) e (not_from_Decides c.is_placed.result c.is_placed.ensures c.if-not-is_placed.true) all))

pub returns-then-not-is_placed-clause-first : goal.returns-then-not-is_placed-clause-first
returns-then-not-is_placed-clause-first c =
    let at = c.loop-placed.placed-index in
    let e = rest_is c.args.units.now at c.placed-item.result c.loop-placed-test.true c.placed-item.is in
    let lt : at < length c.args.units.now = c.loop-placed-test.true in
    let le : at ≤ length c.args.units.now = omega arith in
    first_is c.args.from c.args.units.now at c.loop-placed.number c.placed-item.result (drop (at + 1) c.args.units.now) (length-take-le at c.args.units.now le) e (not_from_Decides c.is_placed.result c.is_placed.ensures c.if-not-is_placed.true) c.loop-placed.invariant

pub loop-placed-preserved : goal.loop-placed-preserved
loop-placed-preserved c = counted_more c.args.from c.args.units.now c.loop-placed.placed-index c.loop-placed.number c.saturating_add-number.result c.placed-item.result c.loop-placed-test.true c.placed-item.is
    (c.is_placed.ensures.0 c.if-not-is_placed.false) (saturated c.loop-placed.number c.saturating_add-number.result c.saturating_add-number.ensures) c.loop-placed.invariant
