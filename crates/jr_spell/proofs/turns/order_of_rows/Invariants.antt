use Rattle.jr_spell.proofs.Turning.{AreIn}
use Rattle.jr_spell.proofs.turns.order_of_rows.Given as goal

abbrev pub invariant-loop-at : goal.invariant-loop-at
invariant-loop-at l = AreIn l.rows l.marks.items l.order.items l.at
