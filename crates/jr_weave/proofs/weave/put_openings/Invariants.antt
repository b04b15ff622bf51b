use Rattle.std.proofs.Common.{◌≡◌, drop}
use Rattle.jr_weave.specs.Weaving.{openings, with_pieces}
use Rattle.jr_weave.proofs.weave.put_openings.Given as goal

abbrev pub invariant-loop-piece : goal.invariant-loop-piece
invariant-loop-piece l = with_pieces l.rows (openings (drop l.piece-index l.pieces)) l.all.items ≡ with_pieces l.rows (openings l.pieces) l.fn.all.items
