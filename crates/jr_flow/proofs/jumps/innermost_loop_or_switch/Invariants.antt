use Rattle.std.proofs.Common.{◌≡◌, ◌-◌}
use Rattle.jr_flow_defs.specs.Acts.{around, is_loop_or_switch}
use Rattle.jr_flow.proofs.jumps.innermost_loop_or_switch.Given as goal

abbrev pub invariant-loop-turn : goal.invariant-loop-turn
invariant-loop-turn l = around l.rows is_loop_or_switch (l.at - l._turn) l.here ≡ around l.rows is_loop_or_switch l.at l.at
