use Rattle.std.proofs.Common.{◌≡◌, ◌++◌, drop, flat_map}
use Rattle.jr_tree.specs.declared.label.Role.TheVariants as role
use Rattle.jr_tree.specs.Rows.{role_at}
use Rattle.jr_defs.specs.Referents.{Table}
use Rattle.jr_dispatch.specs.Methods.{AreMethods}
use Rattle.jr_dispatch.specs.Families.{declared_like}
use Rattle.jr_dispatch.proofs.families.all_like.Given as goal

abbrev pub invariant-loop-over : goal.invariant-loop-over
invariant-loop-over l = (t : Table) → AreMethods l.methods.under.rows.now t l.methods → role_at l.methods.under.rows.now l.method ≡ role.Method
    → l.all.items ++ flat_map (declared_like l.methods.under.rows.now t l.method) (drop l.over-index l.overs) ≡ flat_map (declared_like l.methods.under.rows.now t l.method) l.overs
