use Rattle.std.proofs.Common.{drop}
use Rattle.jr_front.proofs.Placing.{IsBehind}
use Rattle.jr_front.proofs.placed.behind_folder.Given as goal

abbrev pub invariant-loop-part : goal.invariant-loop-part
invariant-loop-part l = IsBehind l.path l.rest l.parts (drop l.part-index l.parts)
