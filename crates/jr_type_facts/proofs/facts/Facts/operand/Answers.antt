use Rattle.std.proofs.Common.{◌∙◌, ap}
use Rattle.jr_types.specs.Typed.{int_of, operand_of}
use Rattle.jr_type_facts.proofs.Parts.{int_told}
use Rattle.jr_type_facts.proofs.facts.Facts.operand.Goals as goal

pub returns : goal.returns
returns c = ap (operand_of c.args.ty) (c.int_of-value.ensures ∙ int_told c.args.self.now.view.constants.now.texts _ ∙ ap int_of c.value.ensures)
