use Rattle.std.proofs.Common.{◌+◌, ◌<◌, ◌^◌}
use Rattle.jr_members.specs.Sources.{ArePlaced}
use Rattle.jr_spell.specs.Packaging.{HoldsName, chain_of, AreEntries, EntersTo}
use Rattle.jr_spell.proofs.paths.Paths.add.Given as goal

abbrev pub invariant-loop-nth : goal.invariant-loop-nth
invariant-loop-nth l = ArePlaced l.rows l.places → HoldsName l.rows l.unit → l.unit + 3 < 2 ^ 32 → AreEntries l.rows l.fn.self → EntersTo l.rows l.fn.self l.self (chain_of l.rows l.unit) l.nth l.over
