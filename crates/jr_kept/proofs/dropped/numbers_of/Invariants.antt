use Rattle.jr_kept.specs.Disturbed.{AreSuch}
use Rattle.jr_kept.proofs.dropped.numbers_of.Given as goal

abbrev pub invariant-loop-number : goal.invariant-loop-number
invariant-loop-number l = AreSuch l.points l.is_definition l.local l.number l.all.items
