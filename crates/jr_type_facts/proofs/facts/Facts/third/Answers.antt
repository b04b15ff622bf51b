use Rattle.std.proofs.Common.{◌∙◌, ap}
use Rattle.jr_types.specs.Typed.{child_if}
use Rattle.jr_type_facts.specs.Facts.{rows_of, types_of}
use Rattle.jr_type_facts.proofs.Parts.{third_is}
use Rattle.jr_type_facts.proofs.facts.Facts.third.Goals as goal

pub returns : goal.returns
returns c = λ few. c.child_if.ensures ∙ ap (child_if (rows_of c.args.self.now) (types_of c.args.self.now) c.args.at) (c.third_row.ensures few) ∙ third_is (rows_of c.args.self.now) (types_of c.args.self.now) c.args.at
