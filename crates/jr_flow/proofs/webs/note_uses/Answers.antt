use Rattle.std.proofs.Common.{◌≡◌, length, subst, arith}
use Rattle.std.proofs.lemmas.Option.{slice_get-get_or}
use Rattle.jr_flow.specs.Woven.{NotesUses}
use Rattle.jr_flow.proofs.Woven.{none_noted, one_noted}
use Rattle.jr_flow.proofs.webs.note_uses.Goals as goal

pub loop-nth-init : goal.loop-nth-init
loop-nth-init c = none_noted c.args.points.now c.args.local c.args.definition c.args.found.now c.args.pairs.now.items

pub loop-nth-preserved : goal.loop-nth-preserved
loop-nth-preserved c = one_noted c.args.points.now c.args.local c.args.definition c.args.found.now c.loop-nth.nth _ c.args.pairs.now.items c.loop-nth.pairs.items c.note_use.new.pairs.items (slice_get-get_or c.args.found.now c.loop-nth.nth _ (omega arith)) c.loop-nth.invariant c.in_ok-note_use.ensures

pub returns : goal.returns
returns c = let all : c.loop-nth.nth ≡ length c.args.found.now = omega arith in subst (λ k. NotesUses c.args.points.now c.args.local c.args.definition c.args.found.now k c.args.pairs.now.items c.loop-nth.pairs.items) all c.loop-nth.invariant
