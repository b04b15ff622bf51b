use Rattle.jr_members.specs.Sources.{ArePlaced}
use Rattle.jr_spell.specs.Packaging.{ArePathsTo}
use Rattle.jr_spell.proofs.paths.Paths.of.Given as goal

abbrev pub invariant-loop-at : goal.invariant-loop-at
invariant-loop-at l = ArePlaced l.rows l.places → ArePathsTo l.rows l.paths l.at
