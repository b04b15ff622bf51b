use Rattle.std.proofs.Common.{refl}
use Rattle.std.proofs.lemmas.Result.{on_ok_weaker}
use Rattle.jr_rule.specs.declared.Rule.TheVariants as rule
use Rattle.jr_faults.proofs.Told.{none_then, then_none, only_more}
use Rattle.jr_flow_faults.specs.Reading.{rows_of, table_of, types_in, completes_of}
use Rattle.jr_flow_faults.proofs.Exceptions.{uncaught_followed, unthrown_followed}
use Rattle.jr_flow_faults.proofs.Noted.{arrived_start, all_arrived}
use Rattle.jr_flow_faults.proofs.throwing.Reading.note_all.Goals as goal

pub returns-clause-only : goal.returns-clause-only
returns-clause-only c = on_ok_weaker c.note_unthrown.result (λ h. only_more (uncaught_followed c.in_ok-note_rows.ensures.only) (unthrown_followed h)) c.note_unthrown.ensures.only

pub returns-clause-uncaught : goal.returns-clause-uncaught
returns-clause-uncaught c = λ reading. let start = arrived_start (rows_of c.args.self.now) (table_of c.args.self.now) (completes_of c.args.self.now) c.new-arrived.result c.new-arrived.ensures.thrown c.new-arrived.ensures.above in
    on_ok_weaker c.note_unthrown.result (λ h. then_none rule.UncaughtException (c.in_ok-note_rows.ensures.uncaught reading start) (h.others rule.UncaughtException refl)) c.note_unthrown.ensures.only

pub returns-clause-unthrown : goal.returns-clause-unthrown
returns-clause-unthrown c = λ reading. let p = rows_of c.args.self.now in let t = table_of c.args.self.now in let completes = completes_of c.args.self.now in
    let start = arrived_start p t completes c.new-arrived.result c.new-arrived.ensures.thrown c.new-arrived.ensures.above in
    let arrived = c.in_ok-note_rows.ensures.arrived reading start in
    on_ok_weaker c.note_unthrown.result (λ h. none_then rule.UnthrownCatch (c.in_ok-note_rows.ensures.only.others rule.UnthrownCatch refl) h)
    (c.note_unthrown.ensures.unthrown (record { local = reading.view.local; sized = reading.view.sized; supers_are = reading.view.above; roots_are = reading.roots; above = arrived.above })
    (types_in c.args.self.now.view.now) completes (record { typed = reading.view.typed; thrown = all_arrived p t completes _ arrived }))
