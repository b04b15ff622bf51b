use Rattle.std.proofs.Common.{◌≡◌}
use Rattle.jr_defs.specs.Referents.{entries}
use Rattle.jr_locks.specs.Copies.{AreMade}
use Rattle.jr_locks.proofs.moving.table_of.Given as goal

abbrev pub invariant-loop-at : goal.invariant-loop-at
invariant-loop-at l = record { made : AreMade l.origin l.copies (entries l.table) l.raised l.all.items l.at; row : l.row ≡ l.at }
