use Rattle.std.proofs.Common.{◌∙◌, ap}
use Rattle.jr_types.specs.Typed.{rows_of, table_of, created_type}
use Rattle.jr_types.proofs.typing.Typing.new_array_type.Goals as goal

pub returns : goal.returns
returns c = λ few counted. c.created_type.ensures few ∙ ap (created_type (rows_of c.args.self) (table_of c.args.self) c.args.at c.args.primitive) (c.dims_of.ensures counted)
