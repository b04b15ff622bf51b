use Rattle.std.proofs.Common.{refl}
use Rattle.jr_flow_defs.proofs.Checked.{has_edges}
use Rattle.jr_flow_laws.specs.Nested as nested
use Rattle.jr_flow_laws.proofs.law.labels_do_not_tell_edges.Goals as goal

pub returns : goal.returns
returns c = record {
  labels = refl;
  referents = refl;
  behind = has_edges nested.behind_the_loop refl refl;
  inside = has_edges nested.in_the_loop refl refl;
}
