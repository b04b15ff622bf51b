use Rattle.std.proofs.Common.{drop}
use Rattle.jr_edits.proofs.Written.{Writes}
use Rattle.jr_edits.proofs.edits.apply_all.Given as goal

abbrev pub invariant-loop-edit : goal.invariant-loop-edit
invariant-loop-edit l = Writes l.bytes l.edits (drop l.edit-index l.edits) l.at l.new.items
