use Rattle.std.proofs.Common.{arith}
use Rattle.jr_spell.proofs.Packed.{none_added, all_added}
use Rattle.jr_spell.proofs.paths.Paths.of.Goals as goal

pub loop-at-init : goal.loop-at-init
loop-at-init c = λ placed. none_added c.args.rows.now _ c.new-paths.ensures

pub loop-at-preserved : goal.loop-at-preserved
loop-at-preserved c = λ placed. c.in_ok-add_at.ensures placed (omega arith) (c.loop-at.invariant placed)

pub returns-clause-paths : goal.returns-clause-paths
returns-clause-paths c = λ placed. all_added c.args.rows.now _ c.loop-at.at (omega arith) (c.loop-at.invariant placed)

pub returns-clause-few : goal.returns-clause-few
returns-clause-few c = omega arith
