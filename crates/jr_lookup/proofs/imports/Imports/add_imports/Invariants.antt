use Rattle.std.proofs.Common.{◌≡◌, []}
use Rattle.jr_defs.specs.Referents.{entries}
use Rattle.jr_members.specs.Keys.{entries_of}
use Rattle.jr_members.specs.Sources.{ArePlaced}
use Rattle.jr_lookup.specs.Imports.{brought}
use Rattle.jr_lookup.proofs.imports.Imports.add_imports.Given as goal

abbrev pub invariant-loop-at : goal.invariant-loop-at
invariant-loop-at l = ArePlaced l.under.rows.now l.under.places.now → l.fn.self.singles ≡ [] → l.self.singles ≡ entries_of (brought l.under.rows.now (entries l.under.table.now)) l.at
