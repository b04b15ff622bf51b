use Rattle.std.proofs.Common.{◌≡◌, ◌++◌, drop, filter}
use Rattle.jr_members.specs.Sources.{ArePlaced}
use Rattle.jr_lookup.specs.Sights.{is_static_importable}
use Rattle.jr_names.proofs.imports.add_importable.Given as goal

abbrev pub invariant-loop-at : goal.invariant-loop-at
invariant-loop-at l = ArePlaced l.world.under.rows.now l.world.under.places.now
    → l.all.items ++ filter (is_static_importable l.world.under.rows.now l.unit) (drop l.at-index l.members) ≡ l.fn.all.items ++ filter (is_static_importable l.world.under.rows.now l.unit) l.members
