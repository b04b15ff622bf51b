use Rattle.jr_locks.specs.Copying.{AllCopies, name_in}
use Rattle.jr_locks.proofs.agreeing.Copying.are_copies.Given as goal

abbrev pub invariant-loop-at : goal.invariant-loop-at
invariant-loop-at l = AllCopies l.self.old.now (name_in l.self.namings.now l.self.numbers.now) l.all.origin.items l.all.is_turned.items l.all.rest.items l.new l.at
