use Rattle.jr_index.proofs.Numbered as numbered
use Rattle.jr_index.proofs.law.nodes_are_numbered.Goals as goal

pub returns : goal.returns
returns c = numbered.nodes_are_numbered
