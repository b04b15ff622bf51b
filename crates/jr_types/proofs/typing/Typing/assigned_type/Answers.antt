use Rattle.std.proofs.Common.{◌∙◌, sym, ap, ap₂}
use Rattle.jr_plain.specs.Conversions.{of_two}
use Rattle.jr_plain.specs.Typing as plain
use Rattle.jr_types.specs.Typed.{rows_of, table_of, types_of}
use Rattle.jr_types.proofs.Operands.{assigned_none}
use Rattle.jr_types.proofs.typing.Typing.assigned_type.Goals as goal

pub returns-in-Some : goal.returns-in-Some
returns-in-Some c = λ constant h. c.compound_of.ensures (table_of c.args.self) h.seen.above
    ∙ ap₂ (of_two (plain.compound_type (rows_of c.args.self) (table_of c.args.self) c.in-Some.op)) (c.first-place.ensures h.sized.few) (c.second-value.ensures h.sized.few)
    ∙ ap (plain.assigned_type (rows_of c.args.self) (table_of c.args.self) (types_of c.args.self) c.args.at c.args.sign) (sym c.in-Some.is ∙ c.operator_of.ensures)

pub returns-in-None : goal.returns-in-None
returns-in-None c = λ constant h. c.simply_assigned.ensures ∙ assigned_none (rows_of c.args.self) (table_of c.args.self) (types_of c.args.self) c.args.at c.args.sign _ _ (c.first-place.ensures h.sized.few) (sym c.in-None.is ∙ c.operator_of.ensures)
