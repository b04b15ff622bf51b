use Rattle.std.proofs.Common.{refl, sym, subst, arith, ◌+◌, take}
use Rattle.jr_flow_faults.specs.Reading.{NotesClasses, rows_of, table_of, completes_of}
use Rattle.jr_flow_faults.proofs.Noted.{classes_start, classes_next, classes_end}
use Rattle.jr_flow_faults.proofs.throwing.Reading.are_uncaught.Goals as goal

pub loop-class-init : goal.loop-class-init
loop-class-init c = λ reading none lt. classes_start (rows_of c.args.self.now) (table_of c.args.self.now) (completes_of c.args.self.now) c.args.at _ _ _ refl refl

pub loop-class-preserved : goal.loop-class-preserved
loop-class-preserved c = λ reading none lt. let p = rows_of c.args.self.now in let t = table_of c.args.self.now in let completes = completes_of c.args.self.now in
    subst (λ b. NotesClasses p t completes c.args.at (take (c.loop-class.class-index + 1) c.args.classes.now) c.args.arrived.now c.is_uncaught.new.arrived b) (sym c.is_either-is_broken.ensures)
    (classes_next p t completes c.args.at c.args.classes.now c.loop-class.class-index _ 0 _ _ _ _ _ (omega arith) refl (c.loop-class.invariant reading none lt) (c.in_ok-is_uncaught.ensures reading none lt))

pub returns : goal.returns
returns c = λ reading none lt. classes_end (rows_of c.args.self.now) (table_of c.args.self.now) (completes_of c.args.self.now) c.args.at c.args.classes.now c.loop-class.class-index _ _ _ (omega arith) (c.loop-class.invariant reading none lt)
