use Rattle.std.proofs.Common.{◌∙◌, ap, ap₂}
use Rattle.jr_plain.specs.Conversions.{of_two}
use Rattle.jr_plain.specs.Typing as plain
use Rattle.jr_types.specs.Typed.{rows_of, table_of, types_of, operand_if, conditional_on}
use Rattle.jr_types.proofs.Values.{chosen_is}
use Rattle.jr_types.proofs.typing.Typing.conditional_type.Goals as goal

pub returns : goal.returns
returns c = λ constant h. c.chosen_type.ensures ∙ ap₂ plain.chosen_type (c.first-condition.ensures h.sized.few)
    (c.chosen_of-chosen.ensures (table_of c.args.self) h.seen.above
    ∙ ap₂ (of_two (conditional_on (rows_of c.args.self) (table_of c.args.self)))
    (c.operand_if-first.ensures ∙ ap (operand_if (rows_of c.args.self) (types_of c.args.self) c.args.self.ints.now c.args.at) (c.second_row.ensures h.sized.few))
    (c.operand_if-second.ensures ∙ ap (operand_if (rows_of c.args.self) (types_of c.args.self) c.args.self.ints.now c.args.at) (c.third_row.ensures h.sized.few))
    ∙ chosen_is (rows_of c.args.self) (table_of c.args.self) constant (types_of c.args.self) c.args.self.ints.now c.args.at h.ints_are)
