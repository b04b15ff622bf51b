use Rattle.jr_defs.proofs.Cycles.{mutual_headers}
use Rattle.jr_defs.proofs.law.mutual_headers_are_a_cycle.Goals as goal

pub returns : goal.returns
returns c p t a b h k to_b to_a = mutual_headers p t a b h k to_b to_a
