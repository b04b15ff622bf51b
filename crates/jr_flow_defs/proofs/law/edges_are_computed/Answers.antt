use Rattle.jr_flow_defs.specs.Computed.{same_state}
use Rattle.jr_flow_defs.specs.Edges.{body_flow}
use Rattle.jr_flow_defs.proofs.Same.{state_tells}
use Rattle.jr_flow_defs.proofs.Flowing.{control_tells, def_uses_tells}
use Rattle.jr_flow_defs.proofs.law.edges_are_computed.Goals as goal

pub returns : goal.returns
returns c = record {
  control = λ p m body rounds naming done x y. control_tells same_state state_tells (body_flow p m body) rounds p body naming done x y;
  uses = λ p m body rounds done i j. def_uses_tells same_state state_tells (body_flow p m body) rounds done i j;
}
