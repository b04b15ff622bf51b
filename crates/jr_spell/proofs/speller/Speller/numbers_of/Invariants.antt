use Rattle.std.proofs.Common.{◌≡◌, map, take}
use Rattle.jr_places.specs.Names.{name_row}
use Rattle.jr_spell.specs.Adding.{AreWithin}
use Rattle.jr_spell.specs.Spellers.{rows_of, IsWholeSpeller}
use Rattle.jr_spell.proofs.speller.Speller.numbers_of.Given as goal

abbrev pub invariant-loop-row : goal.invariant-loop-row
invariant-loop-row l = IsWholeSpeller l.self → AreWithin (rows_of l.self) l.at → l.all.items ≡ map (λ n. name_row (rows_of l.self) n) (take l.row-index l.at)
