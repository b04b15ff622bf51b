use Rattle.jr_commit.specs.Restoring.{MayBegin}
use Rattle.jr_top.proofs.Commands.{call, own_told, batch_told, reading_told, undo_told, undo_alone}
use Rattle.jr_top.proofs.InTurn.{leaves, undone}
use Rattle.jr_top.proofs.Starts.{no_fault}
use Rattle.jr_top.proofs.turns.in_turn.Goals as goal

pub returns-clause-next : goal.returns-clause-next
returns-clause-next g c first second begins =
    let S = g.S.Store in
    let m = c.refactor-before.new.store in
    let e = c.refactor-after.new.store in
    no_fault (S.faults m) (S.faults e) (MayBegin (S.files e) (S.may_leave e)) c.refactor-after.result second
    (c.refactor-after.ensures.next (no_fault (S.faults c.args.store.now) (S.faults m) (MayBegin (S.files m) (S.may_leave m)) c.refactor-before.result first (c.refactor-before.ensures.next begins)))

pub returns-clause-undone : goal.returns-clause-undone
returns-clause-undone g c n files found told restored asks done none =
    let S = g.S.Store in
    let I = g.I.Source in
    let O = g.O.Sink in
    let b = c.args.store.now in
    let m = c.refactor-before.new.store in
    let e = c.refactor-after.new.store in
    let before = call c.args.first.now (S.files b) (S.files m) (S.may_leave b) (S.may_leave m) (S.faults b) (S.faults m) (I.left c.args.input.now) (I.faults c.args.input.now) (I.faults c.refactor-before.new.input)
    (O.contents c.args.out.now) (O.contents c.refactor-before.new.out) (O.faults c.args.out.now) (O.faults c.refactor-before.new.out) in
    let after = call c.args.second.now (S.files m) (S.files e) (S.may_leave m) (S.may_leave e) (S.faults m) (S.faults e) (I.left c.refactor-before.new.input) (I.faults c.refactor-before.new.input) (I.faults c.refactor-after.new.input)
    (O.contents c.refactor-before.new.out) (O.contents c.refactor-after.new.out) (O.faults c.refactor-before.new.out) (O.faults c.refactor-after.new.out) in
    let said = c.refactor-before.result in
    let comes = c.refactor-before.ensures.answer.comes in
    let left = leaves c.args.first.now (S.files b) (S.files m) (S.may_leave b) (S.may_leave m) (S.faults b) (S.faults m) n (I.left c.args.input.now) (I.faults c.args.input.now) (I.faults c.refactor-before.new.input)
    (O.contents c.args.out.now) (O.contents c.refactor-before.new.out) (O.faults c.args.out.now) (O.faults c.refactor-before.new.out) said done (own_told before said comes) (batch_told before said comes) (reading_told before said comes) (undo_told before said comes) in
    undone files found n (S.files b) (S.files m) (S.files e) (S.faults m) (S.faults e) (O.faults c.refactor-before.new.out) (O.faults c.refactor-after.new.out) c.refactor-after.result told restored left.0 left.1 left.2
    (undo_alone after c.refactor-after.result c.refactor-after.ensures.answer.alone asks) none
