use Rattle.std.proofs.Common.{sym, subst}
use Rattle.jr_kept.specs.Returned.{NotesReturn}
use Rattle.jr_kept.proofs.Moved.{notes_row, notes_no_row}
use Rattle.jr_kept.proofs.returning.note.Goals as goal

pub returns-in-Some : goal.returns-in-Some
returns-in-Some c = λ bound counted. let names = c.args.names.now in
    subst (NotesReturn names.rows.now names.body bound c.args.moved.now c.note_if.new.moved) (sym c.in-Some.is)
    (notes_row names.rows.now names.body bound c.in-Some.row c.args.moved.now c.note_if.new.moved c.is_noted.result c.is_noted.ensures (c.note_if.ensures bound counted))

pub returns-in-None : goal.returns-in-None
returns-in-None c = λ bound counted. let names = c.args.names.now in let set = c.args.moved.now in
    subst (NotesReturn names.rows.now names.body bound set set) (sym c.in-None.is) (notes_no_row names.rows.now names.body bound set counted)
