use Rattle.std.proofs.Common.{Err, subst}
use Rattle.jr_report.specs.Reports.{IsReportOf}
use Rattle.jr_top.proofs.Shown.{project_tables, read_project}
use Rattle.jr_top.proofs.showing.reported.Goals as goal

pub returns-in-Ok : goal.returns-in-Ok
returns-in-Ok c = λ found is. record {
  project = c.args.project.now;
  of = is;
  tables = project_tables _ _ is;
  reports = c.in-Ok.ensures (read_project _ _ is).ordered (read_project _ _ is).whole;
}

pub returns-in-Err-Bad : goal.returns-in-Err-Bad
returns-in-Err-Bad c = λ found is. record {
  project = c.args.project.now;
  of = is;
  tables = project_tables _ _ is;
  reports = subst (λ f. IsReportOf c.args.project.now c.args.what c.args.file.now c.args.at (Err f)) c.in-Err-Bad.field-0-is
      (c.in-Err-Bad.ensures (read_project _ _ is).ordered (read_project _ _ is).whole);
}
