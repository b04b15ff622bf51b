use Rattle.std.proofs.Common.{◌≡◌, ℕ, true, drop}
use Rattle.jr_tree.specs.declared.label.Role.TheVariants as role
use Rattle.jr_tree.specs.Rows.{role_at}
use Rattle.jr_defs.specs.Referents.{Table}
use Rattle.jr_plain.specs.Search.{has}
use Rattle.jr_members.specs.Worlds.{IsWorld, IsReplacedBy}
use Rattle.jr_members.proofs.members.World.is_left_above.Given as goal

abbrev pub invariant-loop-over : goal.invariant-loop-over
invariant-loop-over l = (t : Table) → IsWorld t l.self → role_at l.self.under.rows.now l.at ≡ role.Method
    → (s : ℕ) → has l.above s ≡ true → IsReplacedBy l.self.under.rows.now t l.at s → has (drop l.over-index l.above) s ≡ true
