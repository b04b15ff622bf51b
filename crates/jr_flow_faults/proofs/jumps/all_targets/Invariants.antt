use Rattle.std.proofs.Common.{◌≡◌, length}
use Rattle.jr_tree.specs.Local.{IsLocal}
use Rattle.jr_places.specs.Tabulated.{tabulated}
use Rattle.jr_flow_faults.specs.Computed.{targets}
use Rattle.jr_flow_faults.proofs.jumps.all_targets.Given as goal

abbrev pub invariant-loop-at : goal.invariant-loop-at
invariant-loop-at l = IsLocal l.rows → l.count ≡ length l.rows → l.all.items ≡ tabulated (targets l.rows) l.at
