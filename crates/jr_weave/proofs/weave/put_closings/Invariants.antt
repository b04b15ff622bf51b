use Rattle.std.proofs.Common.{◌≡◌, drop}
use Rattle.jr_weave.specs.Weaving.{closings, with_pieces}
use Rattle.jr_weave.proofs.weave.put_closings.Given as goal

abbrev pub invariant-loop-piece : goal.invariant-loop-piece
invariant-loop-piece l = with_pieces l.rows (closings (drop l.piece-index l.pieces)) l.all.items ≡ with_pieces l.rows (closings l.pieces) l.fn.all.items
