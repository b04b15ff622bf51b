use Rattle.jr_index.proofs.Adding.{}
use Rattle.jr_index.proofs.words.add_base.Goals as goal

pub returns-in-Primitive : goal.returns-in-Primitive
returns-in-Primitive c = rw c.in-Primitive.is c.pass.ensures

pub returns-in-Named : goal.returns-in-Named
returns-in-Named c = rw c.in-Named.is c.add_type_name.ensures
