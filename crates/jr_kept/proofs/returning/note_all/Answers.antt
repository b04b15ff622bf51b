use Rattle.std.proofs.Common.{inl, inr, arith}
use Rattle.jr_kept.specs.Named.{origin_in}
use Rattle.jr_kept.proofs.Moved.{notes_none, notes_more, notes_end}
use Rattle.jr_kept.proofs.returning.note_all.Goals as goal

pub loop-copy-init : goal.loop-copy-init
loop-copy-init c = (inl (omega arith), λ bound empty. let names = c.args.names.now in notes_none names.rows.now names.body bound (origin_in c.args.origin.now) c.args.first c.args.moved.now empty)

pub loop-copy-preserved : goal.loop-copy-preserved
loop-copy-preserved c = let lt = c.loop-copy-test.true in (
  inr (omega (arith, lt)),
  λ bound empty. let names = c.args.names.now in let inv = c.loop-copy.invariant.1 bound empty in
      notes_more names.rows.now names.body bound (origin_in c.args.origin.now) c.args.first c.loop-copy.copy c.loop-copy.moved c.note.new.moved c.row_for.result (omega arith) c.row_for.ensures inv (c.note.ensures bound inv.counted),
)

pub returns : goal.returns
returns c = λ bound empty. let names = c.args.names.now in let past = c.loop-copy-test.false in
    notes_end names.rows.now names.body bound (origin_in c.args.origin.now) c.args.first c.loop-copy.copy c.args.end c.loop-copy.moved c.loop-copy.invariant.0 (omega (arith, past)) (c.loop-copy.invariant.1 bound empty)
