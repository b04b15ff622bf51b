use Rattle.jr_type_facts.specs.Facts.{table_of}
use Rattle.jr_type_facts.proofs.facts.Facts.is_subtype.Goals as goal

pub returns : goal.returns
returns c = λ right. c.is_subtype.ensures.plain (table_of c.args.self.now) right.seen.above
