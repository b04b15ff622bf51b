use Rattle.std.proofs.Common.{sym, ◌∙◌}
use Rattle.std.proofs.lemmas.Result.{on_ok_weaker}
use Rattle.jr_elab.proofs.Chosen.{return_some, return_none}
use Rattle.jr_elab.proofs.jumps.returned.Goals as goal

pub returns-in-Some : goal.returns-in-Some
returns-in-Some c = on_ok_weaker c.return_value.result (return_some c.args.wanted (λ counted. sym c.in-Some.is ∙ c.child.ensures counted)) c.return_value.ensures

pub returns-in-None : goal.returns-in-None
returns-in-None c = on_ok_weaker c.push.result (return_none c.args.wanted (λ counted. sym c.in-None.is ∙ c.child.ensures counted)) c.push.ensures
