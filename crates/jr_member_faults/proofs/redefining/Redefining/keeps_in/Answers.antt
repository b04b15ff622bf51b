use Rattle.std.proofs.lemmas.Bool.{false≢true}
use Rattle.jr_member_faults.proofs.Nearing.{not_so}
use Rattle.jr_member_faults.proofs.redefining.Redefining.keeps_in.Goals as goal

pub returns-then-breaks_above : goal.returns-then-breaks_above
returns-then-breaks_above c = λ h th m e. absurd (false≢true e)

pub returns : goal.returns
returns c = λ h th m e. record { near = c.in_ok-breaks_above.ensures h th m c.if-breaks_above.false; object = c.in_ok-breaks_object.ensures h th m (not_so _ e) }
