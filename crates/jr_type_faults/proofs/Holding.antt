-- The member that holds a place, and the type that declares a member.
use Rattle.std.proofs.Common.{◌≡◌, sym, ◌∙◌, ap, subst, ℕ, Bool, true, false, ◌&&◌, length, nat_eq, Option, Some, None, Decides}
use Rattle.std.proofs.lemmas.Bool.{false_from_ne_true}
use Rattle.std.proofs.lemmas.Bool.Decides.{Decides-eqb}
use Rattle.std.proofs.lemmas.Option.{none-some, same_Some}
use Rattle.jr_tree.specs.Rows.{Rows}
use Rattle.jr_defs.specs.Enclosing.{DeclaredIn, Innermost}
use Rattle.jr_plain.specs.Search.{Finds, any_below}
use Rattle.jr_plain.specs.Enclosing.{innermost, is_declared_in, declaring_type}
use Rattle.jr_plain.specs.Instances.{is_member_round}
use Rattle.jr_plain.proofs.Tests.{itself, both, like}
use Rattle.jr_plain.proofs.Searches.{some}
use Rattle.jr_plain.proofs.Enclosed.{innermost_finds, declared_in_tells, declaring_finds}
use Rattle.jr_plain.proofs.Modified.{found_tells}
use Rattle.jr_lookup.proofs.Instancing.{same_tests}
use Rattle.jr_rules.specs.TypedTests.{found}
use Rattle.jr_rules.proofs.Kids.{Round, round_tells, member_row}
use Rattle.jr_type_facts.specs.Tables.{IsMemberOf}

module _ (p : Rows) (n : ℕ) (member : Option ℕ) (test : ℕ → Bool) (finds : Finds member (λ m. IsMemberOf p n m)) where
  abbrev any_round : ℕ → Bool
  any_round c = any_below (length p) (λ m. is_member_round p n c m && test m)

  abbrev Such : ℕ → Type 0
  Such c = (m : ℕ) × (Round p n c m × (test m ≡ true))

  round_such : (c : ℕ) → Decides (any_round c) (Such c)
  round_such c = some (λ m. is_member_round p n c m && test m) (λ m. Round p n c m × (test m ≡ true)) (λ m. both (round_tells p n c m) (itself (test m))) (length p) (λ m h. member_row p c m h.0.0.0)

  all_tells : Decides (found (innermost p n) any_round) ((c : ℕ) × Innermost p n c × Such c)
  all_tells = found_tells (λ c. Innermost p n c) any_round Such round_such (innermost p n) (innermost_finds p n)

  one_tells : Decides (found member test) ((m : ℕ) × IsMemberOf p n m × (test m ≡ true))
  one_tells = found_tells (λ m. IsMemberOf p n m) test (λ m. test m ≡ true) (λ m. itself (test m)) member finds

  -- what holds of some member of the innermost type that holds the place holds of the one that is found
  pub member_told : found member test ≡ found (innermost p n) any_round
  member_told = same_tests _ _ ((c : ℕ) × Innermost p n c × Such c)
      (like one_tells (λ h. let i = h.1.inside in (h.1.class, i.innermost, (h.0, (((i.inside, i.from), i.before), h.2))))
      (λ h. (h.2.0, record { class = h.0; inside = record { innermost = h.1; inside = h.2.1.0.0.0; from = h.2.1.0.0.1; before = h.2.1.0.1 } }, h.2.1.1))) all_tells

  pub member_in : (c : ℕ) → innermost p n ≡ Some c → found member test ≡ any_round c
  member_in c is = member_told ∙ ap (λ o. found o any_round) is

-- ---- declaring types

pub declares_some : (p : Rows) (c d e : ℕ) → declaring_type p d ≡ Some e → nat_eq e c ≡ is_declared_in p c d
declares_some p c d e is = same_tests _ _ (DeclaredIn p c d)
    (like (Decides-eqb e c) (λ same. subst (λ k. DeclaredIn p k d) same ((declaring_finds p d e).0 is)) (λ h. same_Some e c (sym is ∙ (declaring_finds p d c).1 h))) (declared_in_tells p c d)

pub declares_none : (p : Rows) (c d : ℕ) → declaring_type p d ≡ None → false ≡ is_declared_in p c d
declares_none p c d none = sym (false_from_ne_true _ (λ h. none-some c (sym none ∙ (declaring_finds p d c).1 ((declared_in_tells p c d).0 h))))
