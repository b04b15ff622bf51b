use Rattle.std.proofs.Common.{◌∙◌, ap, sym}
use Rattle.jr_report.specs.Listed.{is_this, rows_in, table_in}
use Rattle.jr_report.proofs.Referring.{no_reference, reference_if}
use Rattle.jr_report.proofs.listed.is_reference.Goals as goal

pub returns-then-not-is_occurrence : goal.returns-then-not-is_occurrence
returns-then-not-is_occurrence c = no_reference (rows_in c.args.world.now) (table_in c.args.world.now) c.args.declared c.args.at (sym c.is_occurrence.ensures ∙ c.if-not-is_occurrence.true)

pub returns : goal.returns
returns c = reference_if (rows_in c.args.world.now) (table_in c.args.world.now) c.args.declared c.args.at _ (sym c.is_occurrence.ensures ∙ c.if-not-is_occurrence.false)
    (c.is_this.ensures ∙ ap (is_this c.args.declared) c.declared.ensures)
