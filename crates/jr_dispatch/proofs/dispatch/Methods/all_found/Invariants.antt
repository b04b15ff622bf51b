use Rattle.std.proofs.Common.{drop}
use Rattle.jr_defs.specs.Referents.{Table}
use Rattle.jr_defs.specs.Overriding.{Has}
use Rattle.jr_supers.specs.Supers.{ListsOnce}
use Rattle.jr_dispatch.specs.Methods.{AreMethods}
use Rattle.jr_dispatch.proofs.Edging.{AreEdgesTo}
use Rattle.jr_dispatch.proofs.dispatch.Methods.all_found.Given as goal

abbrev pub invariant-loop-method : goal.invariant-loop-method
invariant-loop-method l = (t : Table) → AreMethods l.self.under.rows.now t l.self → ListsOnce l.methods (Has l.self.under.rows.now t l.class)
    → AreEdgesTo l.self.under.rows.now t l.class l.methods (drop l.method-index l.methods) l.all.items
