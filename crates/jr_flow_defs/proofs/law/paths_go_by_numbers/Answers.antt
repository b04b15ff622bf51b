use Rattle.jr_flow_defs.specs.Edges.{body_flow}
use Rattle.jr_flow_defs.specs.Kept.{joined_flow}
use Rattle.jr_flow_defs.proofs.Reaching.{paths_go_by_numbers, reaching_goes_by_numbers, edges_go_by_numbers}
use Rattle.jr_flow_defs.proofs.law.paths_go_by_numbers.Goals as goal

pub returns : goal.returns
returns c = record {
  paths = λ p m body. paths_go_by_numbers (body_flow p m body) body;
  reaching = λ p m body. reaching_goes_by_numbers (body_flow p m body) body;
  edges = λ p m body. edges_go_by_numbers p (body_flow p m body) body;
  joined_paths = λ p m body call method. paths_go_by_numbers (joined_flow p m body call method) body;
  joined_reaching = λ p m body call method. reaching_goes_by_numbers (joined_flow p m body call method) body;
  joined_edges = λ p m body call method. edges_go_by_numbers p (joined_flow p m body call method) body;
}
