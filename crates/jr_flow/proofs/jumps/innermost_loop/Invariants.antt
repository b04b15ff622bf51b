use Rattle.std.proofs.Common.{◌≡◌, ◌-◌}
use Rattle.jr_flow_defs.specs.Acts.{around, is_loop}
use Rattle.jr_flow.proofs.jumps.innermost_loop.Given as goal

abbrev pub invariant-loop-turn : goal.invariant-loop-turn
invariant-loop-turn l = around l.rows is_loop (l.at - l._turn) l.here ≡ around l.rows is_loop l.at l.at
