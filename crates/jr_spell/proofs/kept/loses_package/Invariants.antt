use Rattle.std.proofs.Common.{◌≡◌, drop}
use Rattle.jr_defs.specs.Referents.{entries}
use Rattle.jr_shapes.specs.Parts.{type_of}
use Rattle.jr_spell.specs.Adding.{loses}
use Rattle.jr_spell.proofs.kept.loses_package.Given as goal

abbrev pub invariant-loop-at : goal.invariant-loop-at
invariant-loop-at l = loses l.rows (entries l.table) (type_of l.rows l.fn.found) l.parts ≡ loses l.rows (entries l.table) l.behind (drop l.at-index l.parts)
