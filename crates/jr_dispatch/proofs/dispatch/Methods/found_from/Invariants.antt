use Rattle.std.proofs.Common.{◌≡◌, ◌-◌}
use Rattle.jr_tree.specs.declared.label.Role.TheVariants as role
use Rattle.jr_tree.specs.Rows.{role_at}
use Rattle.jr_defs.specs.Referents.{Table}
use Rattle.jr_defs.specs.Declarations.{IsClass}
use Rattle.jr_dispatch.specs.Methods.{AreMethods}
use Rattle.jr_dispatch.proofs.Ascending.{IsClimbing}
use Rattle.jr_dispatch.proofs.dispatch.Methods.found_from.Given as goal

abbrev pub invariant-loop-turn : goal.invariant-loop-turn
invariant-loop-turn l = (t : Table) → AreMethods l.self.under.rows.now t l.self → IsClass l.self.under.rows.now l.class → role_at l.self.under.rows.now l.called ≡ role.Method
    → IsClimbing l.self.under.rows.now t l.class l.called l.declaring (l.turns - l._turn)
