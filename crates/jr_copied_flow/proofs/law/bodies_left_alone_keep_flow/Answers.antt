-- Each clause is a lemma.
use Rattle.jr_copied_flow.proofs.Kept.{flow_is_kept}
use Rattle.jr_copied_flow.proofs.Whole.{whole_at}
use Rattle.jr_copied_flow.proofs.law.bodies_left_alone_keep_flow.Goals as goal

pub returns : goal.returns
returns c = record { flow = flow_is_kept; whole = whole_at }
