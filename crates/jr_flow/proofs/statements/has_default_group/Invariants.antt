use Rattle.std.proofs.Common.{◌≡◌, ◌-◌}
use Rattle.std.specs.List.{list_any}
use Rattle.jr_flow_defs.specs.Acts.{siblings, is_default_group}
use Rattle.jr_flow.proofs.statements.has_default_group.Given as goal

abbrev pub invariant-loop-turn : goal.invariant-loop-turn
invariant-loop-turn l = list_any (is_default_group l.rows) (siblings l.rows (l.room - l._turn) l.group l.stop) ≡ list_any (is_default_group l.rows) (siblings l.rows l.room l.from l.stop)
