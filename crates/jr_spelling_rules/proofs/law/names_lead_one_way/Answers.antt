use Rattle.jr_spelling_rules.proofs.Leading.{led, qualified}
use Rattle.jr_spelling_rules.proofs.law.names_lead_one_way.Goals as goal

pub returns : goal.returns
returns c = λ p t o k b names it. (led p t o k b names it, λ h. qualified p t o k h)
