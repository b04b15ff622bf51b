use Rattle.std.proofs.Common.{◌≡◌, length}
use Rattle.jr_draft.specs.Packages.{behind_last_in}
use Rattle.jr_draft.proofs.packages.behind_last.Given as goal

abbrev pub invariant-loop-first : goal.invariant-loop-first
invariant-loop-first l = behind_last_in l.mark l.behind l.rest ≡ behind_last_in l.mark l.bytes l.bytes

abbrev pub decreases-loop-first : goal.decreases-loop-first
decreases-loop-first l = length l.rest
