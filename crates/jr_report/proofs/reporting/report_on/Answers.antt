use Rattle.std.proofs.Common.{◌∙◌, sym}
use Rattle.jr_report.specs.Reports.{IsReportOn}
use Rattle.jr_report.proofs.reporting.report_on.Goals as goal

pub returns-then-not-has_report : goal.returns-then-not-has_report
returns-then-not-has_report c = λ ordered whole. IsReportOn.other_kind (sym c.has_report.ensures ∙ c.if-not-has_report.true)

pub returns-in-Ok : goal.returns-in-Ok
returns-in-Ok c = λ ordered whole. let has = sym c.has_report.ensures ∙ c.if-not-has_report.false in IsReportOn.listed has (c.in-Ok.ensures ordered whole has)

pub returns-in-Err : goal.returns-in-Err
returns-in-Err c = λ ordered whole. IsReportOn.no_memory
