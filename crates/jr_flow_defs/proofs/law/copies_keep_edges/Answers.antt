use Rattle.jr_flow_defs.specs.Edges.{body_flow}
use Rattle.jr_flow_defs.proofs.Copied as copied
use Rattle.jr_flow_defs.proofs.law.copies_keep_edges.Goals as goal

pub returns : goal.returns
returns c = λ p q m w old new move row is. copied.copies_keep_edges (body_flow p m old) (body_flow q w new) move row is
