use Rattle.std.proofs.Common.{length, ◌-◌}
use Rattle.std.specs.Str.{IsCharBoundary}
use Rattle.jr_base.specs.Places.{CharRun}
use Rattle.jr_base.specs.Identifiers.{is_word_char}
use Rattle.jr_lex.proofs.words.run_end.Given as goal

abbrev pub invariant-loop-end : goal.invariant-loop-end
invariant-loop-end l = IsCharBoundary l.text l.end × CharRun is_word_char l.text l.from l.end

abbrev pub decreases-loop-end : goal.decreases-loop-end
decreases-loop-end l = length l.text - l.end
