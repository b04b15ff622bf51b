use Rattle.std.proofs.Common.{List}
use Rattle.jr_flow_defs.specs.Meaning.{Meaning}
use Rattle.jr_flow.specs.declared.states.States.{States}
use Rattle.jr_flow.specs.declared.hops.Hop.{Hop}
use Rattle.jr_flow.specs.Coded.{IsCoded}
use Rattle.jr_flow.specs.Stated.{AreNoted, AreWaysReached}
use Rattle.jr_flow.proofs.states.States.note_all.Given as goal

abbrev pub invariant-loop-nth : goal.invariant-loop-nth
invariant-loop-nth l = (m : Meaning) (before : States) (groups : List (List Hop)) → IsCoded l.rows m l.code → AreNoted l.rows m l.code.body before l.fn.self groups l.ways 0
    → AreWaysReached l.rows m l.code.body before.pending l.ways → AreNoted l.rows m l.code.body before l.self groups l.ways l.nth
