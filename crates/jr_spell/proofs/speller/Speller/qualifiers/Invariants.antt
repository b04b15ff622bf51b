use Rattle.std.proofs.Common.{◌<◌, length}
use Rattle.jr_spell.specs.Spellers.{rows_of, IsWholeSpeller}
use Rattle.jr_spell.specs.Packaging.{AreNumbers}
use Rattle.jr_spell.specs.Standing.{LeadsOn}
use Rattle.jr_spell.proofs.speller.Speller.qualifiers.Given as goal

abbrev pub invariant-loop-name : goal.invariant-loop-name
invariant-loop-name l = IsWholeSpeller l.self → AreNumbers (rows_of l.self) l.names → l.fn.place < length (rows_of l.self) → LeadsOn l.self l.fn.place l.fn.kind l.names l.name-index l.last l.trace.items
