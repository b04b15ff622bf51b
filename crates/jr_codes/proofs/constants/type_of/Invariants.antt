use Rattle.std.proofs.Common.{◌≡◌}
use Rattle.jr_codes.specs.Facts.{arrays, element_in}
use Rattle.jr_codes.specs.Reads.{facts}
use Rattle.jr_codes.proofs.constants.type_of.Given as goal

abbrev pub invariant-loop-dim : goal.invariant-loop-dim
invariant-loop-dim l = l.made ≡ arrays l._dim (element_in (facts l.source) l.fn.given.element)
