use Rattle.std.proofs.Common.{◌∙◌, ap₂}
use Rattle.jr_defs.specs.Typing.{class_of}
use Rattle.jr_plain.specs.Conversions.{of_two}
use Rattle.jr_plain.specs.Typing as plain
use Rattle.jr_types.specs.Typed.{rows_of, table_of}
use Rattle.jr_types.proofs.typing.Typing.binary_type.Goals as goal

pub returns : goal.returns
returns c = λ constant h. c.binary_of.ensures (table_of c.args.self) h.seen.above
    ∙ ap₂ (of_two (plain.binary_type (rows_of c.args.self) (table_of c.args.self) (class_of c.args.op))) (c.first-first.ensures h.sized.few) (c.second-second.ensures h.sized.few)
