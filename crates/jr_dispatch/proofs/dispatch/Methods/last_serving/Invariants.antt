use Rattle.std.proofs.Common.{◌≡◌, ℕ, drop, Option, None}
use Rattle.jr_tree.specs.declared.label.Role.TheVariants as role
use Rattle.jr_tree.specs.Rows.{role_at}
use Rattle.jr_defs.specs.Referents.{Table}
use Rattle.jr_defs.specs.Declarations.{IsClass}
use Rattle.jr_defs.specs.Overriding.{Serves}
use Rattle.jr_dispatch.specs.Methods.{AreMethods}
use Rattle.jr_dispatch.specs.Dispatching.{AreMethodRows, IsLastOf}
use Rattle.jr_dispatch.proofs.dispatch.Methods.last_serving.Given as goal

abbrev pub invariant-loop-method : goal.invariant-loop-method
invariant-loop-method l = (t : Table) → AreMethods l.self.under.rows.now t l.self → IsClass l.self.under.rows.now l.class → role_at l.self.under.rows.now l.called ≡ role.Method → AreMethodRows l.self.under.rows.now l.all
    → (found : Option ℕ) → IsLastOf (Serves l.self.under.rows.now t l.class l.called) l.last (drop l.method-index l.all) found → IsLastOf (Serves l.self.under.rows.now t l.class l.called) None l.all found
