use Rattle.std.proofs.Common.{ℕ, drop}
use Rattle.jr_defs.specs.Referents.{Table}
use Rattle.jr_places.specs.Stamps.{IsStamping}
use Rattle.jr_dispatch.specs.Methods.{AreMethods}
use Rattle.jr_dispatch.specs.Dispatching.{IsMarking}
use Rattle.jr_dispatch.proofs.dispatch.Methods.mark_supers.Given as goal

abbrev pub invariant-loop-over : goal.invariant-loop-over
invariant-loop-over l = (t : Table) (bound : ℕ) → AreMethods l.self.under.rows.now t l.self → IsStamping l.fn.met bound → IsMarking l.self.under.rows.now t l.at l.method l.fn.met l.met bound (drop l.over-index l.over-items)
