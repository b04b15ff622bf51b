use Rattle.std.proofs.Common.{◌≡◌, ◌-◌}
use Rattle.jr_flow_defs.specs.Kept.{whole_name}
use Rattle.jr_kept.proofs.names.node_of.Given as goal

abbrev pub invariant-loop-turn : goal.invariant-loop-turn
invariant-loop-turn l = whole_name l.rows l.row l.row ≡ whole_name l.rows (l.row - l._turn) l.at
