use Rattle.std.proofs.Common.{◌∙◌, sym, ap}
use Rattle.std.specs.Prelude.{option_and_then}
use Rattle.jr_plain.specs.Typing as plain
use Rattle.jr_types.specs.Typed.{rows_of, table_of, types_of, operated_by}
use Rattle.jr_types.proofs.typing.Typing.operated_type.Goals as goal

pub returns-in-Paren : goal.returns-in-Paren
returns-in-Paren c = λ constant h. c.first.ensures h.sized.few ∙ ap (operated_by (rows_of c.args.self) (table_of c.args.self) constant (types_of c.args.self) c.args.at) (sym c.in-Paren.is)

pub returns-in-Index : goal.returns-in-Index
returns-in-Index c = λ constant h. c.item_type.ensures ∙ ap (option_and_then plain.item_type) (c.first-in-Index.ensures h.sized.few) ∙ ap (operated_by (rows_of c.args.self) (table_of c.args.self) constant (types_of c.args.self) c.args.at) (sym c.in-Index.is)

pub returns-in-IsA : goal.returns-in-IsA
returns-in-IsA c = λ constant h. c.tested_type.ensures ∙ ap (option_and_then plain.tested_type) (c.first-in-IsA.ensures h.sized.few) ∙ ap (operated_by (rows_of c.args.self) (table_of c.args.self) constant (types_of c.args.self) c.args.at) (sym c.in-IsA.is)

pub returns-in-Unary : goal.returns-in-Unary
returns-in-Unary c = λ constant h. c.unary_of.ensures ∙ ap (option_and_then (plain.unary_of c.in-Unary.op)) (c.first-in-Unary.ensures h.sized.few) ∙ ap (operated_by (rows_of c.args.self) (table_of c.args.self) constant (types_of c.args.self) c.args.at) (sym c.in-Unary.is)

pub returns-in-PreStep : goal.returns-in-PreStep
returns-in-PreStep c = λ constant h. c.stepped_type.ensures ∙ ap (option_and_then plain.stepped_type) (c.first-in-PreStep.ensures h.sized.few) ∙ ap (operated_by (rows_of c.args.self) (table_of c.args.self) constant (types_of c.args.self) c.args.at) (sym c.in-PreStep.is)

pub returns-in-PostStep : goal.returns-in-PostStep
returns-in-PostStep c = λ constant h. c.stepped_type-in-PostStep.ensures ∙ ap (option_and_then plain.stepped_type) (c.first-in-PostStep.ensures h.sized.few) ∙ ap (operated_by (rows_of c.args.self) (table_of c.args.self) constant (types_of c.args.self) c.args.at) (sym c.in-PostStep.is)

pub returns-in-Binary : goal.returns-in-Binary
returns-in-Binary c = λ constant h. c.binary_type.ensures constant h ∙ ap (operated_by (rows_of c.args.self) (table_of c.args.self) constant (types_of c.args.self) c.args.at) (sym c.in-Binary.is)

pub returns-in-Conditional : goal.returns-in-Conditional
returns-in-Conditional c = λ constant h. c.conditional_type.ensures constant h ∙ ap (operated_by (rows_of c.args.self) (table_of c.args.self) constant (types_of c.args.self) c.args.at) (sym c.in-Conditional.is)

pub returns-in-Assign : goal.returns-in-Assign
returns-in-Assign c = λ constant h. c.assigned_type.ensures constant h ∙ ap (operated_by (rows_of c.args.self) (table_of c.args.self) constant (types_of c.args.self) c.args.at) (sym c.in-Assign.is)
