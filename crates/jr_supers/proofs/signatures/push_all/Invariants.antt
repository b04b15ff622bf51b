use Rattle.std.proofs.Common.{◌≡◌, ◌++◌, drop}
use Rattle.jr_supers.proofs.signatures.push_all.Given as goal

abbrev pub invariant-loop-ty : goal.invariant-loop-ty
invariant-loop-ty l = l.types.items ++ drop l.ty-index l.all ≡ l.fn.types.items ++ l.all
