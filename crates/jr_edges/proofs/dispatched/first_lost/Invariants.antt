use Rattle.std.proofs.Common.{Option, drop}
use Rattle.jr_defs.specs.Referents.{Table}
use Rattle.jr_dispatch.specs.Methods.{AreMethods}
use Rattle.jr_edges.specs.declared.dispatched.Lost as lost_call
use Rattle.jr_edges.specs.Dispatched.{IsFirstLost}
use Rattle.jr_edges.proofs.dispatched.first_lost.Given as goal

abbrev pub invariant-loop-before : goal.invariant-loop-before
invariant-loop-before l = (t : Table) → AreMethods l.locked.under.rows.now t l.locked → (found : Option lost_call.Lost)
    → IsFirstLost l.locked.under.rows.now t l.copy (drop l.before-index l.all) found → IsFirstLost l.locked.under.rows.now t l.copy l.all found
