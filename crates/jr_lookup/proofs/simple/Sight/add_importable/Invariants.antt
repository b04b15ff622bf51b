use Rattle.std.proofs.Common.{◌≡◌, ◌++◌, drop, filter}
use Rattle.jr_plain.specs.Imports.{can_import}
use Rattle.jr_members.specs.Sources.{ArePlaced}
use Rattle.jr_lookup.proofs.simple.Sight.add_importable.Given as goal

abbrev pub invariant-loop-at : goal.invariant-loop-at
invariant-loop-at l = ArePlaced l.self.world.under.rows.now l.self.world.under.places.now
    → l.all.items ++ filter (can_import l.self.world.under.rows.now l.unit) (drop l.at-index l.types) ≡ l.fn.all.items ++ filter (can_import l.self.world.under.rows.now l.unit) l.types
