use Rattle.std.proofs.Common.{◌≡◌, ◌++◌, drop, flat_map}
use Rattle.jr_codes.specs.Reads.{facts}
use Rattle.jr_elab.specs.Cores.{members_at}
use Rattle.jr_elab.proofs.classes.add_all.Given as goal

abbrev pub invariant-loop-row : goal.invariant-loop-row
invariant-loop-row l = l.all ++ flat_map (members_at (facts l.source)) (drop l.row-index l.rows) ≡ l.fn.all ++ flat_map (members_at (facts l.source)) l.rows
