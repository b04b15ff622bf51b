use Rattle.std.proofs.Common.{◌≡◌}
use Rattle.jr_defs.specs.Referents.{entries}
use Rattle.jr_plain.specs.Search.{all_below}
use Rattle.jr_bind.specs.Confirmed.{may_refer_at}
use Rattle.jr_engine.proofs.sound.may_all_refer.Given as goal

abbrev pub invariant-loop-at : goal.invariant-loop-at
invariant-loop-at l = l.may ≡ all_below l.at (may_refer_at l.rows (entries l.table))
