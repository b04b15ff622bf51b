use Rattle.std.proofs.Common.{◌∙◌, sym, ap}
use Rattle.jr_tree.specs.declared.label.Label.TheVariants as is
use Rattle.jr_plain.specs.Typing as plain
use Rattle.jr_types.specs.Typed.{rows_of, table_of, types_of}
use Rattle.jr_types.proofs.typing.Typing.type_of_this.Goals as goal

pub returns-then-is_qualified : goal.returns-then-is_qualified
returns-then-is_qualified c = λ constant h. c.type_of_named_this.ensures constant h
    ∙ ap (λ b. plain.typed_by (rows_of c.args.self) (table_of c.args.self) constant (types_of c.args.self) c.args.at (is.This b)) (sym c.if-is_qualified.true)

pub returns-else-is_qualified : goal.returns-else-is_qualified
returns-else-is_qualified c = λ constant h. c.type_of_bare_this.ensures constant h
    ∙ ap (λ b. plain.typed_by (rows_of c.args.self) (table_of c.args.self) constant (types_of c.args.self) c.args.at (is.This b)) (sym c.if-is_qualified.false)
