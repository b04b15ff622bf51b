use Rattle.jr_flow_defs.specs.Meaning.{Meaning}
use Rattle.jr_flow.specs.Coded.{IsCoded}
use Rattle.jr_flow.specs.Stated.{IsExploring}
use Rattle.jr_flow.proofs.states.States.explore.Given as goal

abbrev pub invariant-loop-number : goal.invariant-loop-number
invariant-loop-number l = (m : Meaning) → IsCoded l.rows m l.code → IsExploring l.rows m l.code.body l.fn.self 0 → IsExploring l.rows m l.code.body l.self l.number
