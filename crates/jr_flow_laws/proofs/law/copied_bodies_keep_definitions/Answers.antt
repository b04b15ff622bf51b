-- Each clause is a lemma.
use Rattle.jr_flow_laws.proofs.Keeping.{uses_kept, uses_back, definitions_by_origins, body_by_origins}
use Rattle.jr_flow_laws.proofs.law.copied_bodies_keep_definitions.Goals as goal

pub returns : goal.returns
returns c = record { uses = uses_kept; originals = uses_back; kept = definitions_by_origins; whole = body_by_origins }
