use Rattle.std.proofs.Common.{sym, ◌∙◌}
use Rattle.jr_defs.specs.Referents.{entries}
use Rattle.jr_constants.proofs.Staying.{rests_known, rests_unmade}
use Rattle.jr_constants.proofs.constants.Constants.lacks.Goals as goal

pub returns-then-is_some : goal.returns-then-is_some
returns-then-is_some c = λ sized init fails. rests_known c.args.under.rows.now (entries c.args.under.table.now) c.args.self.now c.args.at c.variable.result c.variable.ensures (sym c.is_some.ensures ∙ c.if-is_some.true)

pub returns : goal.returns
returns c = λ sized init fails. rests_unmade c.args.under.rows.now (entries c.args.under.table.now) c.args.self.now c.args.at c.args.expression c.variable_value.result _ init c.deref.ensures.value (c.variable_value.ensures sized) (sym c.is_some-2.ensures ∙ fails)
