use Rattle.std.proofs.Common.{length, ◌-◌, ◌+◌}
use Rattle.std.specs.Str.{IsCharBoundary}
use Rattle.jr_base.specs.Literals.{Characters}
use Rattle.jr_lex.proofs.literals.scan_literal.Given as goal

abbrev pub invariant-loop-at : goal.invariant-loop-at
invariant-loop-at l = IsCharBoundary l.text l.at × Characters l.quote l.text 1 l.at l.units.items

abbrev pub decreases-loop-at : goal.decreases-loop-at
decreases-loop-at l = length l.text + 1 - l.at
