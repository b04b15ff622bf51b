use Rattle.std.proofs.Common.{◌≡◌, drop}
use Rattle.jr_weave.specs.Pieces.{choices, choices_from}
use Rattle.jr_weave.proofs.weave.chosen_of.Given as goal

abbrev pub invariant-loop-number : goal.invariant-loop-number
invariant-loop-number l = choices_from l.number (drop l.number l.spellings) l.all.items ≡ choices l.rows l.spellings
