use Rattle.std.proofs.Common.{sym, subst}
use Rattle.jr_places.specs.Stamps.{AddsStamp}
use Rattle.jr_kept.specs.Returned.{NotesIf}
use Rattle.jr_kept.proofs.Moved.{noted_now, noted_none}
use Rattle.jr_kept.proofs.returning.note_if.Goals as goal

pub returns-then-is_such : goal.returns-then-is_such
returns-then-is_such c = λ bound counted. let old = c.args.moved.now in let new = c.add.new.self in
    subst (NotesIf c.args.body bound old new c.args.row) (sym c.if-is_such.true) (noted_now c.args.body bound c.args.row old new c.add.result (subst (λ n. AddsStamp old new bound n c.add.result) c.saturating_sub.ensures (c.add.ensures bound counted)))

pub returns-else-is_such : goal.returns-else-is_such
returns-else-is_such c = λ bound counted. subst (NotesIf c.args.body bound c.args.moved.now c.args.moved.now c.args.row) (sym c.if-is_such.false) (noted_none c.args.body bound c.args.row c.args.moved.now counted)
