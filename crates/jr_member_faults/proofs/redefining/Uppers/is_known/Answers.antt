use Rattle.std.proofs.lemmas.Bool.{false≢true}
use Rattle.jr_member_faults.proofs.redefining.Uppers.is_known.Goals as goal

pub returns-then-is_some : goal.returns-then-is_some
returns-then-is_some c = λ h th d m e. absurd (false≢true e)

pub returns : goal.returns
returns c = λ h th d m e. c.in_ok-keeps.ensures h th d m e
