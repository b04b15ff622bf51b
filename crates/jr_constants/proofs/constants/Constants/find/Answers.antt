use Rattle.jr_defs.specs.Referents.{entries}
use Rattle.jr_constants.proofs.Knowing.{set_found}
use Rattle.jr_constants.proofs.constants.Constants.find.Goals as goal

pub returns : goal.returns
returns c = λ k sized init known. set_found c.args.under.rows.now (entries c.args.under.table.now) k _ _ _ c.args.at c.args.expression _ _ _ known init c.deref.ensures.value (c.variable_value-found.ensures sized) c.set_value.ensures
