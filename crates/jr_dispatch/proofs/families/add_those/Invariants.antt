use Rattle.std.proofs.Common.{◌≡◌, drop}
use Rattle.jr_tree.specs.declared.label.Role.TheVariants as role
use Rattle.jr_tree.specs.Rows.{role_at}
use Rattle.jr_defs.specs.Referents.{Table}
use Rattle.jr_dispatch.specs.Dispatching.{AreMethodRows}
use Rattle.jr_dispatch.specs.Methods.{AreMethods}
use Rattle.jr_dispatch.specs.Families.{IsAddingOverridden}
use Rattle.jr_dispatch.proofs.families.add_those.Given as goal

abbrev pub invariant-loop-other : goal.invariant-loop-other
invariant-loop-other l = (t : Table) → AreMethods l.methods.under.rows.now t l.methods → role_at l.methods.under.rows.now l.method ≡ role.Method → AreMethodRows l.methods.under.rows.now l.all
    → IsAddingOverridden l.methods.under.rows.now t l.method l.all l.fn.links l.links (drop l.other-index l.all)
