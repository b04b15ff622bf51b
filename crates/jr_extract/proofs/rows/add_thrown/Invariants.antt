use Rattle.std.proofs.Common.{◌≡◌, drop}
use Rattle.jr_extract.specs.Writing.{with_thrown}
use Rattle.jr_extract.proofs.rows.add_thrown.Given as goal

abbrev pub invariant-loop-class : goal.invariant-loop-class
invariant-loop-class l = with_thrown (drop l.class-index l.classes) l.draft ≡ with_thrown l.classes l.fn.draft
