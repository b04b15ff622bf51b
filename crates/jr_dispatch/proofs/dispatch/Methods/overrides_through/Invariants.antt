use Rattle.std.proofs.Common.{◌≡◌, ◌-◌, drop, length}
use Rattle.jr_tree.specs.declared.label.Role.TheVariants as role
use Rattle.jr_tree.specs.Rows.{role_at}
use Rattle.jr_defs.specs.Referents.{Table}
use Rattle.jr_dispatch.specs.Methods.{AreMethods}
use Rattle.jr_dispatch.specs.Overridden.{overrides_directly, IsSearching}
use Rattle.jr_dispatch.specs.Dispatching.{AreMethodRows}
use Rattle.jr_dispatch.proofs.dispatch.Methods.overrides_through.Given as goal

abbrev pub invariant-loop-turn : goal.invariant-loop-turn
invariant-loop-turn l = (t : Table) → AreMethods l.self.under.rows.now t l.self → role_at l.self.under.rows.now l.method ≡ role.Method
    → IsSearching (overrides_directly l.self.under.rows.now t) l.method l.other l.like.items (drop l.turn l.met.items) l.left.items (length l.like.items - l.turn)
    × (AreMethodRows l.self.under.rows.now l.left.items × AreMethodRows l.self.under.rows.now l.met.items)
