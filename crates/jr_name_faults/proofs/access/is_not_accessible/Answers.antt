use Rattle.std.proofs.Common.{◌∙◌}
use Rattle.jr_name_faults.proofs.Reaching.{access_told}
use Rattle.jr_name_faults.proofs.access.is_not_accessible.Goals as goal

pub returns : goal.returns
returns c = λ seen. c.is_hidden_occurrence.ensures seen ∙ access_told c.args.view.now seen c.args.at
