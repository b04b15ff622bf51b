use Rattle.std.proofs.Common.{◌<◌, drop, length}
use Rattle.jr_spell.specs.Calling.{AreWrittenTo}
use Rattle.jr_spell.specs.Spellers.{rows_of, table_of, IsWholeSpeller}
use Rattle.jr_spell.proofs.speller.Speller.casts.Given as goal

abbrev pub invariant-loop-ty : goal.invariant-loop-ty
invariant-loop-ty l = IsWholeSpeller l.self → l.fn.place < length (rows_of l.self) → AreWrittenTo (rows_of l.self) (table_of l.self) l.fn.place l.types l.all.items (drop l.ty-index l.types)
