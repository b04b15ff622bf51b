use Rattle.std.proofs.Common.{◌≡◌, length}
use Rattle.jr_plain.specs.Conversions.{Constants}
use Rattle.jr_types.specs.Typed.{CanTypeIn, AreTypesFrom, rows_in, table_in}
use Rattle.jr_types.proofs.filling.set_types.Given as goal

abbrev pub invariant-loop-at : goal.invariant-loop-at
invariant-loop-at l = (constant : Constants) → CanTypeIn constant l.world l.ints l.string → length l.types ≡ length (rows_in l.world) → AreTypesFrom (rows_in l.world) (table_in l.world) constant l.types l.at
