use Rattle.std.proofs.Common.{◌≡◌, drop}
use Rattle.jr_tree.specs.declared.label.Role.TheVariants as role
use Rattle.jr_tree.specs.Rows.{role_at}
use Rattle.jr_defs.specs.Referents.{Table}
use Rattle.jr_dispatch.specs.Methods.{AreMethods}
use Rattle.jr_dispatch.specs.Overridden.{overrides_directly, IsDividing}
use Rattle.jr_dispatch.specs.Dispatching.{AreMethodRows}
use Rattle.jr_dispatch.proofs.dispatch.Methods.divide.Given as goal

abbrev pub invariant-loop-other : goal.invariant-loop-other
invariant-loop-other l = (t : Table) → AreMethods l.self.under.rows.now t l.self → role_at l.self.under.rows.now l.method ≡ role.Method → AreMethodRows l.self.under.rows.now l.left
    → IsDividing (overrides_directly l.self.under.rows.now t) l.method l.left l.fn.met.items l.met.items l.fn.rest.items l.rest.items (drop l.other-index l.left)
