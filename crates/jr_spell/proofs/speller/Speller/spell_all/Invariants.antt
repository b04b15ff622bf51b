use Rattle.std.proofs.Common.{take}
use Rattle.jr_spell.specs.Shaping.{AreSpelled, AreTold}
use Rattle.jr_spell.specs.Spellers.{IsWholeSpeller}
use Rattle.jr_spell.proofs.speller.Speller.spell_all.Given as goal

abbrev pub invariant-loop-row : goal.invariant-loop-row
invariant-loop-row l = IsWholeSpeller l.self → AreSpelled l.self l.all.items × AreTold l.self (take l.row-index l.order) l.all.items
