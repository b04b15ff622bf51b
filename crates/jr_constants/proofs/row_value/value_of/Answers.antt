use Rattle.jr_defs.specs.Referents.{entries}
use Rattle.jr_constants.specs.Tables.{picks, values_in}
use Rattle.jr_constants.proofs.Parts.{binary_at}
use Rattle.jr_constants.proofs.row_value.value_of.Goals as goal

pub returns-in-Binary-clause-exact : goal.returns-in-Binary-clause-exact
returns-in-Binary-clause-exact c = λ few. binary_at c.args.texts.now c.binary.new.texts c.args.under.rows.now (entries c.args.under.table.now) (picks c.args.constant.now) (values_in c.args.texts.now c.args.variables.now) c.args.values.now
    c.args.at c.in-Binary.op c.in-Some.row.now _ c.binary.result c.in-Some.ensures.lookup.3.0 c.in-Some.ensures.lookup.3.1 c.in-Binary.is few c.binary.ensures.exact
