use Rattle.std.proofs.Common.{arith, ◌-◌}
use Rattle.jr_bind.proofs.Keeping.{rows_start, rows_next, rows_typed, typing_start, typing_next}
use Rattle.jr_bind.proofs.Turning.{turn_start, turn_next}
use Rattle.jr_bind.proofs.filling.Filling.fill_typed.Goals as goal

pub loop-at-init : goal.loop-at-init
loop-at-init c = (
  rows_start c.args.stages.now c.args.stage c.args.self.now,
  λ constant formed late size can types. typing_start c.args.known.setting.rows.now formed c.args.stages.now c.args.stage late constant c.args.known.setting.places.now c.args.known.supers.now c.args.self.now can types _ (omega (arith, size, c.in-Ok.ensures)),
  λ constant can. turn_start c.args.known c.args.stages.now c.args.stage constant c.args.self.now can _ (omega (arith, c.in-Ok.ensures)),
)

pub loop-at-preserved : goal.loop-at-preserved
loop-at-preserved c = let so = c.loop-at.invariant in (
  rows_typed c.args.stages.now c.args.stage _ _ _ (rows_next c.args.stages.now c.args.stage _ _ _ _ so.0 c.in_ok-fill_row.ensures.fills) c.set_type.ensures.rest c.set_type.ensures.table,
  λ constant formed late size can types. typing_next c.args.known.setting.rows.now formed c.args.stages.now c.args.stage late constant c.args.known.setting.places.now c.args.known.supers.now c.args.self.now can types (c.loop-at.at - 1) c.loop-at.self c.fill_row.new.self c.set_type.new.self
      (let turn = c.loop-at-test.true in omega (arith, turn, c.loop-at.auto.at, c.in-Ok.ensures, size)) so.0 c.in_ok-fill_row.ensures.fills (c.set_type.ensures.typed constant) c.set_type.ensures.table (λ m le. let turn = c.loop-at-test.true in so.1 constant formed late size can types m (omega (arith, turn))),
  λ constant can. let turn = c.loop-at-test.true in turn_next c.args.known c.args.stages.now c.args.stage constant c.args.self.now can (c.loop-at.at - 1) c.loop-at.self c.fill_row.new.self c.set_type.new.self
      (let size = can.stages_size in omega (arith, turn, c.loop-at.auto.at, c.in-Ok.ensures, size)) so.0 c.in_ok-fill_row.ensures.fills c.in_ok-fill_row.ensures.looked c.set_type.ensures.table
      (λ m le. so.1 constant can.formed can.late can.stages_size can.can can.types_size m (omega (arith, turn)))
      (let was = so.2 constant can in (was.0, λ m le of. was.1 m (omega (arith, turn)) of)),
)

pub returns-clause-rows : goal.returns-clause-rows
returns-clause-rows c = c.loop-at.invariant.0

pub returns-clause-types : goal.returns-clause-types
returns-clause-types c = λ constant formed late size can types n. c.loop-at.invariant.1 constant formed late size can types n (omega arith)

pub returns-clause-looked : goal.returns-clause-looked
returns-clause-looked c = λ constant can n le of. (c.loop-at.invariant.2 constant can).1 n (omega arith) of
