use Rattle.std.proofs.Common.{◌≡◌, ◌++◌, drop, flat_map}
use Rattle.jr_codes.specs.Reads.{facts}
use Rattle.jr_elab.specs.Cores.{members_in}
use Rattle.jr_elab.proofs.classes.members_among.Given as goal

abbrev pub invariant-loop-row : goal.invariant-loop-row
invariant-loop-row l = l.all ++ flat_map (members_in (facts l.source) l.at) (drop l.row-index l.rows) ≡ flat_map (members_in (facts l.source) l.at) l.rows
