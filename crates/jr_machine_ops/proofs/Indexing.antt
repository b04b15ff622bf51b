-- The order of declarations tells them apart as `same_decl` does.
use Rattle.std.proofs.Common.{◌≡◌, refl, ℕ, ◌&&◌, ◌==◌, arith}
use Rattle.std.specs.Ordering.{nat_cmp, ordering_then, is_eq}
use Rattle.std.specs.declared.cmp.Ordering.{Ordering}
use Rattle.std.specs.declared.cmp.Ordering.TheVariants.{Less, Equal, Greater}
use Rattle.std.proofs.lemmas.Bool.Decides.{nat_tests}
use Rattle.jr_base.specs.declared.ids.DeclId.{DeclId}
use Rattle.jr_machine_defs.specs.Values.{same_decl}
use Rattle.jr_machine_ops.specs.Indices.{decl_cmp}

equal_numbers : (a b : ℕ) → is_eq (nat_cmp a b) ≡ (a == b)
equal_numbers a b = grind (arith, nat_tests)

both_equal : (a b : Ordering) → is_eq (ordering_then a b) ≡ (is_eq a && is_eq b)
both_equal Less b = refl
both_equal Equal b = refl
both_equal Greater b = refl

pub equal_decls : (a b : DeclId) → is_eq (decl_cmp a b) ≡ same_decl a b
equal_decls a b = rw (both_equal, both_equal, equal_numbers, equal_numbers, equal_numbers) refl
