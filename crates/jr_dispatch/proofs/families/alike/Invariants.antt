use Rattle.std.proofs.Common.{◌≡◌, ◌++◌, drop, filter}
use Rattle.jr_tree.specs.declared.label.Role.TheVariants as role
use Rattle.jr_tree.specs.Rows.{Rows, role_at}
use Rattle.jr_defs.specs.Referents.{Table}
use Rattle.jr_supers.specs.Signatures.{AreSignatures}
use Rattle.jr_dispatch.specs.Dispatching.{AreMethodRows}
use Rattle.jr_dispatch.specs.Families.{is_like}
use Rattle.jr_dispatch.proofs.families.alike.Given as goal

abbrev pub invariant-loop-other : goal.invariant-loop-other
invariant-loop-other l = (p : Rows) (t : Table) → AreSignatures p t l.signatures → role_at p l.method ≡ role.Method → AreMethodRows p l.all
    → l.out.items ++ filter (is_like p t l.method) (drop l.other-index l.all) ≡ filter (is_like p t l.method) l.all
