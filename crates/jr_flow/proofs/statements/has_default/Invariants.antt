use Rattle.std.proofs.Common.{◌≡◌, ◌-◌}
use Rattle.std.specs.List.{list_any}
use Rattle.jr_tree.specs.Rows.{label}
use Rattle.jr_flow_defs.specs.Acts.{siblings, is_default}
use Rattle.jr_flow.proofs.statements.has_default.Given as goal

abbrev pub invariant-loop-turn : goal.invariant-loop-turn
invariant-loop-turn l = list_any (λ k. is_default (label l.rows k)) (siblings l.rows (l.room - l._turn) l.part l.stop) ≡ list_any (λ k. is_default (label l.rows k)) (siblings l.rows l.room l.from l.stop)
