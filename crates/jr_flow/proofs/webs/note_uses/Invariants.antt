use Rattle.jr_flow.specs.Woven.{NotesUses}
use Rattle.jr_flow.proofs.webs.note_uses.Given as goal

abbrev pub invariant-loop-nth : goal.invariant-loop-nth
invariant-loop-nth l = NotesUses l.points l.local l.definition l.found l.nth l.fn.pairs.items l.pairs.items
