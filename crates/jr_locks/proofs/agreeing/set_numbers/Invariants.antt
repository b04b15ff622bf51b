use Rattle.std.proofs.Common.{◌≡◌, drop}
use Rattle.jr_locks.specs.Copying.{with_number}
use Rattle.jr_locks.proofs.agreeing.set_numbers.Given as goal

abbrev pub invariant-loop-at : goal.invariant-loop-at
invariant-loop-at l = with_number l.numbers (drop l.at-index l.rows) l.number ≡ with_number l.fn.numbers l.rows l.number
