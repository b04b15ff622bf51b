use Rattle.std.proofs.Common.{Err, subst}
use Rattle.jr_run.specs.Runs.{IsRunText}
use Rattle.jr_top.proofs.Shown.{project_tables, read_project}
use Rattle.jr_top.proofs.showing.printed.Goals as goal

pub returns-in-Ok : goal.returns-in-Ok
returns-in-Ok c = λ found is. record { project = c.args.project.now; of = is; tables = project_tables _ _ is; runs = c.in-Ok.ensures (read_project _ _ is) }

pub returns-in-Err-Bad : goal.returns-in-Err-Bad
returns-in-Err-Bad c = λ found is. record { project = c.args.project.now; of = is; tables = project_tables _ _ is; runs = subst (λ f. IsRunText c.args.project.now c.args.class.now c.args.steps (Err f)) c.in-Err-Bad.field-0-is (c.in-Err-Bad.ensures (read_project _ _ is)) }
