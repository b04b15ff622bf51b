use Rattle.std.proofs.Common.{◌∙◌, sym}
use Rattle.jr_report.specs.Listed.{rows_in, table_in}
use Rattle.jr_report.proofs.Referring.{no_subtype, subtype_if}
use Rattle.jr_report.proofs.listed.is_subtype.Goals as goal

pub returns-then-not-is_type : goal.returns-then-not-is_type
returns-then-not-is_type c = λ supers. no_subtype (rows_in c.args.world.now) (table_in c.args.world.now) c.args.over c.args.at (sym c.is_type.ensures ∙ c.if-not-is_type.true)

pub returns : goal.returns
returns c = λ supers. subtype_if (rows_in c.args.world.now) (table_in c.args.world.now) c.args.over c.args.at _ (sym c.is_type.ensures ∙ c.if-not-is_type.false)
    (c.is_above.ensures.above (table_in c.args.world.now) supers)
