use Rattle.std.proofs.Common.{◌≡◌, ◌≤◌, length, drop}
use Rattle.std.specs.BTreeMap.{get}
use Rattle.jr_base.specs.declared.ids.DeclId.{DeclId}
use Rattle.jr_machine_defs.specs.Classes.{found_among}
use Rattle.jr_machine_ops.specs.Indices.{decl_cmp}
use Rattle.jr_machine_ops.proofs.program.index_found.Given as goal

abbrev pub invariant-loop-left : goal.invariant-loop-left
invariant-loop-left l = (l.left ≤ length l.found) × ((method : DeclId) → get decl_cmp l.index method ≡ found_among (drop l.left l.found) method)

abbrev pub decreases-loop-left : goal.decreases-loop-left
decreases-loop-left l = l.left
