-- Each clause is a lemma.
use Rattle.jr_machine_laws.proofs.SameKeys.{core_from_maps}
use Rattle.jr_machine_laws.proofs.SameOrder.{core_permuted, methods_permuted, core_each}
use Rattle.jr_machine_laws.proofs.law.order_does_not_matter.Goals as goal

pub returns : goal.returns
returns c = record { maps = core_from_maps; core = core_permuted; found = methods_permuted; each = core_each }
