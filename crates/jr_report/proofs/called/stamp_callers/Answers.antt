use Rattle.std.proofs.Common.{subst, sym}
use Rattle.jr_supers.specs.Supers.{ListsOnce}
use Rattle.jr_report.specs.Called.{AreOfName}
use Rattle.jr_report.specs.Listed.{IsSubtypeOf, rows_in, table_in}
use Rattle.jr_report.proofs.Gathering.{gather_first}
use Rattle.jr_report.proofs.called.stamp_callers.Goals as goal

pub returns : goal.returns
returns c = λ whole here method alone.
    let named = subst (AreOfName (rows_in c.args.world.now) c.args.method) (sym c.deref-2.ensures.value) (c.in_ok-others.ensures whole method) in
    c.stamp_found.ensures whole here (subst (λ xs. ListsOnce xs (IsSubtypeOf (rows_in c.args.world.now) (table_in c.args.world.now) c.args.declaring)) (sym c.deref.ensures.value) (c.in_ok-below.ensures whole.world_is.seen.above)) method
    named (gather_first (rows_in c.args.world.now) (table_in c.args.world.now) c.args.method _ _ alone named method)
