use Rattle.std.proofs.Common.{◌≡◌, ◌+◌, length, drop, take, map, reverse}
use Rattle.jr_spell.specs.Spellers.{table_of}
use Rattle.jr_spell.proofs.speller.Speller.is_trace_kept.Given as goal

abbrev pub invariant-loop-part : goal.invariant-loop-part
invariant-loop-part l = (l.left + l.part-index ≡ length l.trace) × (drop l.left l.trace ≡ reverse (map (table_of l.self) (take l.part-index l.parts)))
