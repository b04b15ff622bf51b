use Rattle.jr_assign.specs.Made.{AreBefore}
use Rattle.jr_assign.proofs.fields.made.Given as goal

abbrev pub invariant-loop-turn : goal.invariant-loop-turn
invariant-loop-turn l = AreBefore l.group l.body l.is_static l.at l.word
