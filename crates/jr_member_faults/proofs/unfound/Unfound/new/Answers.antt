use Rattle.jr_member_faults.proofs.Abstracts.{unfound_new}
use Rattle.jr_member_faults.proofs.unfound.Unfound.new.Goals as goal

pub returns : goal.returns
returns c = unfound_new c.args.rows.now _ c.in_ok-below_abstract.ensures c.in_ok-abstracts.ensures
