use Rattle.std.proofs.Common.{◌≡◌, drop}
use Rattle.jr_tree.specs.declared.label.Role.TheVariants as role
use Rattle.jr_tree.specs.Rows.{role_at}
use Rattle.jr_defs.specs.Referents.{Table}
use Rattle.jr_dispatch.specs.Methods.{IsWholeWorld}
use Rattle.jr_dispatch.specs.Families.{IsAddingMembers}
use Rattle.jr_dispatch.proofs.families.add_all_members.Given as goal

abbrev pub invariant-loop-over : goal.invariant-loop-over
invariant-loop-over l = (t : Table) → IsWholeWorld t l.world → role_at l.world.under.rows.now l.method ≡ role.Method → IsAddingMembers l.world.under.rows.now t l.method l.overs l.fn.links l.links (drop l.over-index l.overs)
