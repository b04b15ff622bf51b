use Rattle.std.proofs.Common.{◌≡◌, ◌-◌, length}
use Rattle.jr_extract.specs.Running.{member_from, member_round}
use Rattle.jr_extract.proofs.run.member_round.Given as goal

abbrev pub invariant-loop-turn : goal.invariant-loop-turn
invariant-loop-turn l = member_from l.rows (length l.rows - l._turn) l.over ≡ member_round l.rows l.at
