use Rattle.std.proofs.Common.{◌≡◌, drop}
use Rattle.jr_draft.specs.Packages.{dots_from}
use Rattle.jr_draft.proofs.packages.count_identifiers.Given as goal

abbrev pub invariant-loop-byte : goal.invariant-loop-byte
invariant-loop-byte l = dots_from l.count (drop l.byte-index l.named) ≡ dots_from 1 l.named
