use Rattle.std.proofs.Common.{◌∙◌, sym, ap, subst, ◌<◌, ◌^◌}
use Rattle.jr_plain.specs.Typing as plain
use Rattle.jr_supers.specs.Tabled.{dims_made}
use Rattle.jr_types.specs.Typed.{rows_of, table_of, types_of}
use Rattle.jr_types.proofs.Operands.{cast_is, created_is, other_typed}
use Rattle.jr_types.proofs.typing.Typing.typed_by.Goals as goal

pub returns-in-Literal : goal.returns-in-Literal
returns-in-Literal c = λ constant h few. c.literal_type.ensures (rows_of c.args.self) h.string_is
    ∙ ap (plain.literal_type (rows_of c.args.self)) c.get.ensures
    ∙ ap (plain.typed_by (rows_of c.args.self) (table_of c.args.self) constant (types_of c.args.self) c.args.at) (sym c.in-Literal.is)

pub returns-in-Name : goal.returns-in-Name
returns-in-Name c = λ constant h few. c.variable_type.ensures h.sized
    ∙ ap (plain.typed_by (rows_of c.args.self) (table_of c.args.self) constant (types_of c.args.self) c.args.at) (sym c.in-Name.is)

pub returns-in-Select : goal.returns-in-Select
returns-in-Select c = λ constant h few. c.variable_type-in-Select.ensures h.sized
    ∙ ap (plain.typed_by (rows_of c.args.self) (table_of c.args.self) constant (types_of c.args.self) c.args.at) (sym c.in-Select.is)

pub returns-in-SuperSelect : goal.returns-in-SuperSelect
returns-in-SuperSelect c = λ constant h few. c.variable_type-in-SuperSelect.ensures h.sized
    ∙ ap (plain.typed_by (rows_of c.args.self) (table_of c.args.self) constant (types_of c.args.self) c.args.at) (sym c.in-SuperSelect.is)

pub returns-in-Call : goal.returns-in-Call
returns-in-Call c = λ constant h few. c.result_type.ensures h.sized
    ∙ ap (plain.typed_by (rows_of c.args.self) (table_of c.args.self) constant (types_of c.args.self) c.args.at) (sym c.in-Call.is)

pub returns-in-New : goal.returns-in-New
returns-in-New c = λ constant h few. c.new_type.ensures h.sized.few
    ∙ ap (plain.typed_by (rows_of c.args.self) (table_of c.args.self) constant (types_of c.args.self) c.args.at) (sym c.in-New.is)

pub returns-in-NewArray : goal.returns-in-NewArray
returns-in-NewArray c = λ constant h few. c.new_array_type.ensures h.sized.few (subst (λ l. dims_made l < 2 ^ 64) c.in-NewArray.is few)
    ∙ created_is (rows_of c.args.self) (table_of c.args.self) constant (types_of c.args.self) c.args.at c.in-NewArray.primitive c.in-NewArray.lengths c.in-NewArray.more
    ∙ ap (plain.typed_by (rows_of c.args.self) (table_of c.args.self) constant (types_of c.args.self) c.args.at) (sym c.in-NewArray.is)

pub returns-in-Cast : goal.returns-in-Cast
returns-in-Cast c = λ constant h few. c.cast_type.ensures h.sized.few ∙ cast_is (rows_of c.args.self) (table_of c.args.self) c.args.at
    ∙ ap (plain.typed_by (rows_of c.args.self) (table_of c.args.self) constant (types_of c.args.self) c.args.at) (sym c.in-Cast.is)

pub returns-in-This : goal.returns-in-This
returns-in-This c = λ constant h few. c.type_of_this.ensures constant h
    ∙ ap (plain.typed_by (rows_of c.args.self) (table_of c.args.self) constant (types_of c.args.self) c.args.at) (sym c.in-This.is)

pub returns-in_default : goal.returns-in_default
returns-in_default c = λ constant h few. c.operated_type.ensures constant h
    ∙ other_typed (rows_of c.args.self) (table_of c.args.self) constant (types_of c.args.self) c.args.at c.args.label.now c.in_default.not-Literal c.in_default.not-Name c.in_default.not-Select c.in_default.not-SuperSelect c.in_default.not-Call c.in_default.not-New c.in_default.not-NewArray c.in_default.not-Cast c.in_default.not-This
