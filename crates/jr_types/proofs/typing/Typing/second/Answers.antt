use Rattle.std.proofs.Common.{◌∙◌, ap}
use Rattle.jr_types.specs.Typed.{rows_of, types_of, child_if}
use Rattle.jr_types.proofs.Operands.{second_is}
use Rattle.jr_types.proofs.typing.Typing.second.Goals as goal

pub returns : goal.returns
returns c = λ few. c.child_if.ensures ∙ ap (child_if (rows_of c.args.self) (types_of c.args.self) c.args.at) (c.second_row.ensures few) ∙ second_is (rows_of c.args.self) (types_of c.args.self) c.args.at
