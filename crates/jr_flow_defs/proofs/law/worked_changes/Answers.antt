use Rattle.std.proofs.Common.{refl}
use Rattle.std.proofs.lemmas.Bool.{false≢true}
use Rattle.jr_flow_defs.specs.WorkedChanges as change
use Rattle.jr_flow_defs.proofs.Checked.{inlined_tells, extracted_tells}
use Rattle.jr_flow_defs.proofs.law.worked_changes.Goals as goal

pub returns : goal.returns
returns c = record {
  inlines_before_a_return = (inlined_tells change.inlines_before_a_return refl refl).0 refl;
  inlines_past_a_call = λ h. false≢true ((inlined_tells change.inlines_past_a_call refl refl).1 h);
  extracts_from_a_try = (extracted_tells change.extracts_from_a_try 14 21 refl refl).0 refl;
  extracts_a_return = λ h. false≢true ((extracted_tells change.extracts_a_return 14 21 refl refl).1 h);
}
