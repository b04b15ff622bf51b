use Rattle.std.proofs.Common.{◌≡◌, ◌-◌, ◌++◌, List}
use Rattle.jr_flow_defs.specs.Acts.{siblings}
use Rattle.jr_flow.specs.declared.pending.Waiting.{Waiting}
use Rattle.jr_flow.specs.Places.{list_seen, ways_seen}
use Rattle.jr_flow.specs.Pended.{catch_ways}
use Rattle.jr_flow.proofs.leaving.go_catches.Given as goal

abbrev pub invariant-loop-turn : goal.invariant-loop-turn
invariant-loop-turn l = (lists : List Waiting) → ways_seen lists l.out.items ++ catch_ways l.rows (list_seen lists l.list) (siblings l.rows (l.room - l._turn) l.part l.stop)
    ≡ ways_seen lists l.fn.out.items ++ catch_ways l.rows (list_seen lists l.list) (siblings l.rows l.room l.from l.stop)
