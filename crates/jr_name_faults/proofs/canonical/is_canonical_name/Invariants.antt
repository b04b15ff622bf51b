use Rattle.std.proofs.Common.{length, ◌<◌, ◌^◌}
use Rattle.jr_tree.specs.Below.{IsTypeName}
use Rattle.jr_tree.specs.Rows.{label}
use Rattle.jr_defs.specs.Declarations.{IsType}
use Rattle.jr_members.specs.Sources.{ArePlaced}
use Rattle.jr_name_faults.specs.Canonical.{IsReadTo}
use Rattle.jr_name_faults.proofs.canonical.is_canonical_name.Given as goal

abbrev pub invariant-loop-place : goal.invariant-loop-place
invariant-loop-place l = ArePlaced l.rows l.places → length l.rows < 2 ^ 32 → IsType l.rows l.class → IsTypeName (label l.rows l.at) → IsReadTo l.rows l.class l.at l.end l.here l.place
