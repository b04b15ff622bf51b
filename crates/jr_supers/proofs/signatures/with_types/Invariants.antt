use Rattle.std.proofs.Common.{drop}
use Rattle.jr_places.specs.Numbers.{IsNumbering}
use Rattle.jr_supers.specs.Signatures.{ContinuesTo}
use Rattle.jr_supers.proofs.signatures.with_types.Given as goal

abbrev pub invariant-loop-ty : goal.invariant-loop-ty
invariant-loop-ty l = IsNumbering l.fn.numbers → ContinuesTo l.fn.numbers l.numbers l.list l.number l.all (drop l.ty-index l.all)
