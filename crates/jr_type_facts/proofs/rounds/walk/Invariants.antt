use Rattle.std.proofs.Common.{◌≡◌, ◌+◌, ◌≤◌, length}
use Rattle.jr_type_facts.specs.Rounds.{IsWalking, unmet}
use Rattle.jr_type_facts.proofs.rounds.walk.Given as goal

abbrev pub invariant-loop-turn : goal.invariant-loop-turn
invariant-loop-turn l = length l.fn.ways.items ≡ length l.called → IsWalking l.called l.fn.ways.items l.first l.ways.items l.here × (unmet l.ways.items + l._turn ≤ length l.called)
