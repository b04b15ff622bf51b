use Rattle.std.proofs.Common.{◌≡◌, ◌-◌, ◌++◌, List}
use Rattle.jr_flow_defs.specs.States.{all_at}
use Rattle.jr_flow.specs.declared.pending.Waiting.{Waiting}
use Rattle.jr_flow.specs.Places.{list_seen, ways_seen}
use Rattle.jr_flow.proofs.leaving.go_each.Given as goal

abbrev pub invariant-loop-act : goal.invariant-loop-act
invariant-loop-act l = (lists : List Waiting) → ways_seen lists l.out.items ++ all_at l.row l.act (l.count - l.act) (list_seen lists l.list) ≡ ways_seen lists l.fn.out.items ++ all_at l.row l.from (l.count - l.from) (list_seen lists l.list)
