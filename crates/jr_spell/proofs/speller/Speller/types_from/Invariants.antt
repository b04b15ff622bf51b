use Rattle.std.proofs.Common.{◌<◌}
use Rattle.jr_lookup.specs.Behind.{IsArguing}
use Rattle.jr_spell.specs.Spellers.{rows_of, types_of, IsWholeSpeller}
use Rattle.jr_spell.proofs.speller.Speller.types_from.Given as goal

abbrev pub invariant-loop-turn : goal.invariant-loop-turn
invariant-loop-turn l = IsWholeSpeller l.self → l.fn.place < l.fn.first → IsArguing (rows_of l.self) (types_of l.self) l.fn.place l.fn.first l._turn l.child l.all.items
