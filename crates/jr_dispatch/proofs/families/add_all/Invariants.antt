use Rattle.std.proofs.Common.{drop}
use Rattle.jr_defs.specs.Referents.{Table}
use Rattle.jr_dispatch.specs.Dispatching.{AreMethodRows}
use Rattle.jr_dispatch.specs.Methods.{AreMethods}
use Rattle.jr_dispatch.specs.Families.{IsAddingOverriddenOf}
use Rattle.jr_dispatch.proofs.families.add_all.Given as goal

abbrev pub invariant-loop-method : goal.invariant-loop-method
invariant-loop-method l = (t : Table) → AreMethods l.methods.under.rows.now t l.methods → AreMethodRows l.methods.under.rows.now l.all → IsAddingOverriddenOf l.methods.under.rows.now t l.all l.fn.links l.links (drop l.method-index l.all)
