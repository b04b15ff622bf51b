use Rattle.std.proofs.Common.{length}
use Rattle.jr_index.proofs.Numbering.{units_few, units_within, units_rising}
use Rattle.jr_index.proofs.law.units_are_in_order.Goals as goal

pub returns : goal.returns
returns c = λ p. record { few = units_few p (length p); within = units_within p (length p); rise = units_rising p (length p) }
