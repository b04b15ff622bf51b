use Rattle.std.proofs.Common.{sym, ◌∙◌, ap}
use Rattle.jr_plain.specs.Types.{type_at}
use Rattle.jr_types.specs.Typed.{child_if}
use Rattle.jr_types.proofs.Operands.{second_is}
use Rattle.jr_type_facts.specs.Facts.{rows_of, table_of}
use Rattle.jr_type_facts.proofs.facts.Facts.second_written.Goals as goal

pub returns-in-None : goal.returns-in-None
returns-in-None c = λ few. ap (child_if (rows_of c.args.self.now) (type_at (rows_of c.args.self.now) (table_of c.args.self.now)) c.args.at) (sym c.in-None.is ∙ c.second_row.ensures few)
    ∙ second_is (rows_of c.args.self.now) (type_at (rows_of c.args.self.now) (table_of c.args.self.now)) c.args.at
