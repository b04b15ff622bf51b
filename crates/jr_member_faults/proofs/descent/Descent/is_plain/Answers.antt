use Rattle.jr_member_faults.proofs.Nearing.{not_so}
use Rattle.jr_member_faults.proofs.descent.Descent.is_plain.Goals as goal

pub returns : goal.returns
returns c = λ e. not_so c.args.self.now.has_class_above e
