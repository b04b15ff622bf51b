-- Each clause is a lemma.
use Rattle.jr_machine_laws.proofs.SameLaws as laws
use Rattle.jr_machine_laws.proofs.law.same_cores_are_an_equivalence.Goals as goal

pub returns : goal.returns
returns c = record { itself = laws.itself; turned = laws.turned; joined = laws.joined }
