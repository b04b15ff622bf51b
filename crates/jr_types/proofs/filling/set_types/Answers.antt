use Rattle.std.proofs.Common.{◌≡◌, ◌<◌, ◌-◌, arith, length}
use Rattle.jr_types.specs.Typed.{rows_in, table_in}
use Rattle.jr_types.proofs.Passing.{types_next}
use Rattle.jr_types.proofs.filling.set_types.Goals as goal

pub loop-at-preserved : goal.loop-at-preserved
loop-at-preserved c = λ constant h size.
    let turn = c.loop-at-test.true in
    let kept = c.set_type.auto.types in
    let before : length c.loop-at.types ≡ length (rows_in c.args.world) = omega (arith, size, kept) in
    let inside : c.loop-at.at - 1 < length c.loop-at.types = omega (arith, turn, c.loop-at.auto.at, c.loop-at.auto.types, c.in-Ok.ensures) in
    types_next (rows_in c.args.world) h.seen.placed.local.tree (table_in c.args.world) constant c.loop-at.types _ (c.loop-at.at - 1) inside
    (λ k le. c.loop-at.invariant constant h before k (omega (arith, turn))) (c.set_type.ensures constant h)
