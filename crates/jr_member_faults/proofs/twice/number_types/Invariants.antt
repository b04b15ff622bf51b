use Rattle.std.proofs.Common.{◌≡◌, true, drop, Some}
use Rattle.jr_tree.specs.Rows.{Rows, role_at}
use Rattle.jr_defs.specs.Referents.{Table}
use Rattle.jr_plain.specs.Types.{parameters}
use Rattle.jr_places.specs.Numbers.{IsNumbering}
use Rattle.jr_supers.specs.Signatures.{AreSignatures, ContinuesTo}
use Rattle.jr_supers.specs.Tabled.{is_callable}
use Rattle.jr_member_faults.specs.Twice.{size_of}
use Rattle.jr_member_faults.proofs.Constructed.{types_in}
use Rattle.jr_member_faults.proofs.twice.number_types.Given as goal

abbrev pub invariant-loop-nth : goal.invariant-loop-nth
invariant-loop-nth l = (p : Rows) (t : Table) → AreSignatures p t l.signatures → is_callable (role_at p l.at) ≡ true → IsNumbering l.fn.lists → Some l.count ≡ size_of (parameters p t l.at)
    → ContinuesTo l.fn.lists l.lists 0 l.number (types_in (parameters p t l.at)) (drop l.nth (types_in (parameters p t l.at)))
