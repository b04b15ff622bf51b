use Rattle.std.proofs.Common.{◌≡◌, ◌++◌, map, drop}
use Rattle.jr_draft.specs.Packages.{slash_for_dot}
use Rattle.jr_draft.proofs.packages.slashed.Given as goal

abbrev pub invariant-loop-byte : goal.invariant-loop-byte
invariant-loop-byte l = l.all.items ++ map slash_for_dot (drop l.byte-index l.named) ≡ map slash_for_dot l.named
