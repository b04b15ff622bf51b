use Rattle.std.proofs.Common.{arith, ◌-◌}
use Rattle.jr_defs.specs.Referents.{entries}
use Rattle.jr_constants.specs.Tables.{picks}
use Rattle.jr_constants.proofs.Staying.{stable_start, stable_next}
use Rattle.jr_constants.proofs.constants.Constants.set_rows.Goals as goal

pub loop-at-init : goal.loop-at-init
loop-at-init c = λ sized known. (known, λ tree all. stable_start c.args.under.rows.now tree (entries c.args.under.table.now) (picks c.args.constant.now) c.args.self.now c.args.count known (omega arith))

pub loop-at-preserved : goal.loop-at-preserved
loop-at-preserved c = λ sized known. let was = c.loop-at.invariant sized known in let turn = c.loop-at-test.true in (
  c.in_ok-set.ensures.known sized was.0,
  λ tree all. stable_next c.args.under.rows.now tree (entries c.args.under.table.now) (picks c.args.constant.now) _ _ (c.loop-at.at - 1) (c.in_ok-set.ensures.row sized.few) was.0
      (omega (arith, turn, all, c.loop-at.auto.at)) (λ m le. was.1 tree all m (omega (arith, turn))),
)

pub returns-clause-known : goal.returns-clause-known
returns-clause-known c = λ sized known. (c.loop-at.invariant sized known).0

pub returns-clause-stable : goal.returns-clause-stable
returns-clause-stable c = λ sized tree all known m. (c.loop-at.invariant sized known).1 tree all m (omega arith)
