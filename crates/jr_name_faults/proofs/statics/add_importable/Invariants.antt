use Rattle.std.proofs.Common.{◌≡◌, ◌++◌, drop, filter}
use Rattle.jr_members.specs.Sources.{ArePlaced}
use Rattle.jr_lookup.specs.Sights.{is_static_importable}
use Rattle.jr_name_faults.specs.Imports.{rows_of}
use Rattle.jr_name_faults.proofs.statics.add_importable.Given as goal

abbrev pub invariant-loop-at : goal.invariant-loop-at
invariant-loop-at l = ArePlaced (rows_of l.world) l.world.under.places.now
    → l.all.items ++ filter (is_static_importable (rows_of l.world) l.unit) (drop l.at-index l.members) ≡ l.fn.all.items ++ filter (is_static_importable (rows_of l.world) l.unit) l.members
