use Rattle.std.proofs.Common.{◌∙◌, ap, sym, Ok}
use Rattle.jr_report.specs.Reports.{IsReportOf}
use Rattle.jr_report.proofs.reporting.report.Goals as goal

pub returns-in-Ok-Some : goal.returns-in-Ok-Some
returns-in-Ok-Some c = λ ordered whole. IsReportOf.on (sym (c.named_at.ensures ordered) ∙ c.in-Ok-Some.is ∙ ap Ok c.in-Ok-Some.field-0-is) (c.report_on.ensures ordered whole)

pub returns-in-Ok-None : goal.returns-in-Ok-None
returns-in-Ok-None c = λ ordered whole. IsReportOf.no_declaration (sym (c.named_at.ensures ordered) ∙ c.in-Ok-None.is ∙ ap Ok c.in-Ok-None.field-0-is)

pub returns-in-Err : goal.returns-in-Err
returns-in-Err c = λ ordered whole. IsReportOf.unnamed (sym (c.named_at.ensures ordered) ∙ c.in-Err.is)
