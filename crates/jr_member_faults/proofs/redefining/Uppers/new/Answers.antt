use Rattle.std.proofs.Common.{◌∙◌}
use Rattle.jr_member_faults.proofs.redefining.Uppers.new.Goals as goal

pub returns-clause-signed : goal.returns-clause-signed
returns-clause-signed c = c.in_ok-set_all_apart.ensures.signed ∙ c.in_ok-signed.ensures

pub returns-clause-kept : goal.returns-clause-kept
returns-clause-kept c = λ h th. c.in_ok-set_all_apart.ensures.kept h th
