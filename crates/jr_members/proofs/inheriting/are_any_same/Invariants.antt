use Rattle.std.proofs.Common.{◌≡◌, drop}
use Rattle.std.specs.List.{list_any}
use Rattle.jr_tree.specs.declared.label.Role.TheVariants as role
use Rattle.jr_tree.specs.Rows.{Rows, role_at}
use Rattle.jr_defs.specs.Referents.{Table}
use Rattle.jr_plain.specs.Types.{is_same_signature}
use Rattle.jr_supers.specs.Signatures.{AreSignatures}
use Rattle.jr_members.specs.declared.declared.MemberKind.TheVariants as kind
use Rattle.jr_members.specs.Sources.{AreOfKind}
use Rattle.jr_members.proofs.inheriting.are_any_same.Given as goal

abbrev pub invariant-loop-other : goal.invariant-loop-other
invariant-loop-other l = (p : Rows) (t : Table) → AreSignatures p t l.signatures → AreOfKind p kind.Method l.all → role_at p l.at ≡ role.Method
    → list_any (λ e. is_same_signature p t e l.at) (drop l.other-index l.all) ≡ list_any (λ e. is_same_signature p t e l.at) l.all
