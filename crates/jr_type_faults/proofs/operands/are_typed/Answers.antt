use Rattle.std.proofs.Common.{◌∙◌, ap}
use Rattle.std.specs.Prelude.{is_some}
use Rattle.jr_type_facts.specs.Facts.{rows_of, table_of, types_of, constants_of}
use Rattle.jr_type_faults.specs.Parts.{operand_in}
use Rattle.jr_type_faults.proofs.Choosing.{typed_told}
use Rattle.jr_type_faults.proofs.operands.are_typed.Goals as goal

pub returns : goal.returns
returns c = λ right left other. c.is_some.ensures ∙ ap is_some (typed_told (rows_of c.args.facts.now) (table_of c.args.facts.now) (constants_of c.args.facts.now) (types_of c.args.facts.now) c.args.at c.args.left c.args.right _ _ _ left other
    (c.operand_at-one.ensures ∙ ap (λ k. operand_in c.args.facts.now k c.args.left) (c.second_row.ensures right.sized.few))
    (c.operand_at-other.ensures ∙ ap (λ k. operand_in c.args.facts.now k c.args.right) (c.third_row.ensures right.sized.few))
    (c.conditional_type.ensures (table_of c.args.facts.now) right.seen.above))
