-- Each clause is a lemma.
use Rattle.jr_flow_laws.proofs.Keeping.{control_kept, control_by_origins}
use Rattle.jr_flow_laws.proofs.law.copied_bodies_keep_control.Goals as goal

pub returns : goal.returns
returns c = record { same = control_kept; kept = control_by_origins }
