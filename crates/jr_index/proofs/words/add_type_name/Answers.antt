use Rattle.jr_index.proofs.Adding.{}
use Rattle.jr_index.proofs.words.add_type_name.Goals as goal

pub returns : goal.returns
returns c = c.add_name.ensures
