use Rattle.std.proofs.Common.{sym, subst}
use Rattle.jr_flow_faults.specs.Reading.{IsOnward, rows_of, table_of, completes_of, entries_of}
use Rattle.jr_flow_faults.specs.Outwards.{loses, guard_in}
use Rattle.jr_flow_faults.proofs.Noted.{onward_caught, onward_next}
use Rattle.jr_flow_faults.proofs.throwing.Reading.onward.Goals as goal

pub returns-then-has_any : goal.returns-then-has_any
returns-then-has_any c = λ reading lists. onward_caught (rows_of c.args.self.now) (table_of c.args.self.now) (completes_of c.args.self.now) reading.view.above.well.headed reading.view.local c.args.self.now.catches.now.table reading.catches
    c.args.class c.args.over c.args.uppers.now lists c.has_any.result c.has_any.ensures c.if-has_any.true

pub returns : goal.returns
returns c = λ reading lists. subst (IsOnward (rows_of c.args.self.now) (table_of c.args.self.now) (completes_of c.args.self.now) c.args.class c.args.over) (sym c.next_guard.ensures)
    (onward_next (rows_of c.args.self.now) (table_of c.args.self.now) (completes_of c.args.self.now) reading.view.above.well.headed reading.view.local c.args.self.now.catches.now.table reading.catches
    c.args.class c.args.over c.args.uppers.now lists c.has_any.result (loses c.args.self.now.around.now.facts.now (entries_of c.args.self.now) c.args.over) (guard_in c.args.self.now.guards.now c.args.over) c.has_any.ensures c.if-has_any.false
    (reading.finally c.args.over) (reading.guards c.args.over))
