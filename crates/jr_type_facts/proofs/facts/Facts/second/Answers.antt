use Rattle.std.proofs.Common.{◌∙◌, ap}
use Rattle.jr_types.specs.Typed.{child_if}
use Rattle.jr_types.proofs.Operands.{second_is}
use Rattle.jr_type_facts.specs.Facts.{rows_of, types_of}
use Rattle.jr_type_facts.proofs.facts.Facts.second.Goals as goal

pub returns : goal.returns
returns c = λ few. c.child_if.ensures ∙ ap (child_if (rows_of c.args.self.now) (types_of c.args.self.now) c.args.at) (c.second_row.ensures few) ∙ second_is (rows_of c.args.self.now) (types_of c.args.self.now) c.args.at
