use Rattle.std.proofs.Common.{◌≡◌, ◌+◌, List, ℕ, length}
use Rattle.jr_base.specs.Files.{plain}
use Rattle.jr_read.specs.Reading.{AreLexed, AreLexedUpTo}
use Rattle.jr_read.proofs.program.lex_files.Given as goal

abbrev pub invariant-loop-file : goal.invariant-loop-file
invariant-loop-file l = record {
  count : length l.all.items + length (plain l.rest) ≡ length l.fn.lexed.items + length (plain l.files);
  lexed : (front : List (List ℕ × List ℕ)) → AreLexed front l.fn.lexed.items → AreLexedUpTo front (plain l.files) l.all.items (plain l.rest);
}

abbrev pub decreases-loop-file : goal.decreases-loop-file
decreases-loop-file l = length l.rest
