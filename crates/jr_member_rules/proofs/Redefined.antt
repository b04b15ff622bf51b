-- The tests of what methods override and hide tell what they are to tell.
use Rattle.std.proofs.Common.{◌≡◌, ◌⊎◌, refl, sym, subst, inl, inr, arith, ℕ, ◌<◌, ◌&&◌, length, nat_lt, IsTrue, Decides}
use Rattle.std.specs.List.{list_any}
use Rattle.std.proofs.lemmas.Bool.Decides.{Decides-eqb, Decides-ltb}
use Rattle.jr_tree.specs.declared.label.Role.TheVariants as role
use Rattle.jr_tree.specs.Rows.{Rows, label, role_at}
use Rattle.jr_defs.specs.Referents.{Table}
use Rattle.jr_defs.specs.Enclosing.{DeclaredIn, IsMemberRole}
use Rattle.jr_defs.specs.Modifiers.{written, IsPublic, IsProtected, IsPrivate, IsStatic}
use Rattle.jr_defs.specs.Supertypes.{Above}
use Rattle.jr_defs.specs.Members.{CanInherit}
use Rattle.jr_defs.specs.Overriding.{Overrides, IsAboveMethod}
use Rattle.jr_defs.specs.Overloads.{ResultFits}
use Rattle.jr_defs.specs.MemberRules.{Hides, RedefinesMethod, IsOpenTo}
use Rattle.jr_plain.specs.Search.{among, Lists}
use Rattle.jr_plain.specs.Headed.{IsHeaded}
use Rattle.jr_plain.specs.Same.{same_pair}
use Rattle.jr_plain.specs.Enclosing.{declaring_type}
use Rattle.jr_plain.specs.Modifiers.{is_static}
use Rattle.jr_plain.specs.Supertypes.{is_above}
use Rattle.jr_plain.specs.Members.{can_inherit}
use Rattle.jr_plain.proofs.Tests.{itself, both, either, opposite, like}
use Rattle.jr_plain.proofs.Searches.{lists, some_of}
use Rattle.jr_plain.proofs.Bounds.{member_below}
use Rattle.jr_plain.proofs.Enclosed.{declaring_finds}
use Rattle.jr_plain.proofs.Modified.{found_tells, public_tells, protected_tells, private_tells, static_tells}
use Rattle.jr_plain.proofs.Supertyped.{above_tells}
use Rattle.jr_plain.proofs.Membership.{can_inherit_tells, same_methods_tells}
use Rattle.jr_plain.proofs.Overloaded.{result_tells}
use Rattle.jr_member_rules.specs.Redefining as plain
use Rattle.jr_member_rules.specs.Redefining.{Pairs}

pub method_row : (p : Rows) (m : ℕ) → role_at p m ≡ role.Method → m < length p
method_row p m e = member_below p m (subst IsMemberRole (sym e) tt)

-- what a method overrides stands above it
pub stands_above : {p : Rows} {t : Table} {m k : ℕ} → Overrides p t m k → IsAboveMethod p t m k
stands_above (Overrides.direct h r) = h
stands_above (Overrides.through h a b) = h

pub redefining_row : {p : Rows} {t : Table} {m k : ℕ} → RedefinesMethod p t m k → m < length p
redefining_row {p} {m = m} (RedefinesMethod.overriding h) = let above = stands_above h in method_row p m above.signatures.first
redefining_row {p} {m = m} (RedefinesMethod.hiding h) = method_row p m h.signatures.first

redefined_row : {p : Rows} {t : Table} {m k : ℕ} → RedefinesMethod p t m k → k < length p
redefined_row {p} {k = k} (RedefinesMethod.overriding h) = let above = stands_above h in method_row p k above.signatures.second
redefined_row {p} {k = k} (RedefinesMethod.hiding h) = method_row p k h.signatures.second

-- ---- access

open_out : (p : Rows) (d a : ℕ)
    → ((a ≡ 3) × IsPublic p d) ⊎ (((a ≡ 2) × IsProtected p d) ⊎ (((a ≡ 0) × IsPrivate p d) ⊎ ((a ≡ 1) × ((IsPublic p d → ⊥) × ((IsProtected p d → ⊥) × (IsPrivate p d → ⊥)))))) → IsOpenTo p d a
open_out p d a (inl h) = subst (λ x. IsOpenTo p d x) (sym h.0) (IsOpenTo.all h.1)
open_out p d a (inr (inl h)) = subst (λ x. IsOpenTo p d x) (sym h.0) (IsOpenTo.subclasses h.1)
open_out p d a (inr (inr (inl h))) = subst (λ x. IsOpenTo p d x) (sym h.0) (IsOpenTo.nobody h.1)
open_out p d a (inr (inr (inr h))) = subst (λ x. IsOpenTo p d x) (sym h.0) (IsOpenTo.package_alone h.1.0 h.1.1.0 h.1.1.1)

open_in : {p : Rows} {d a : ℕ} → IsOpenTo p d a
    → ((a ≡ 3) × IsPublic p d) ⊎ (((a ≡ 2) × IsProtected p d) ⊎ (((a ≡ 0) × IsPrivate p d) ⊎ ((a ≡ 1) × ((IsPublic p d → ⊥) × ((IsProtected p d → ⊥) × (IsPrivate p d → ⊥))))))
open_in (IsOpenTo.all h) = inl (refl, h)
open_in (IsOpenTo.subclasses h) = inr (inl (refl, h))
open_in (IsOpenTo.nobody h) = inr (inr (inl (refl, h)))
open_in (IsOpenTo.package_alone h i j) = inr (inr (inr (refl, (h, (i, j)))))

pub open_tells : (p : Rows) (d a : ℕ) → Decides (plain.is_open_to p d a) (IsOpenTo p d a)
open_tells p d a = like
    (either (both (Decides-eqb a 3) (public_tells p d)) (either (both (Decides-eqb a 2) (protected_tells p d)) (either (both (Decides-eqb a 0) (private_tells p d))
    (both (Decides-eqb a 1) (both (opposite (public_tells p d)) (both (opposite (protected_tells p d)) (opposite (private_tells p d))))))))
    (open_out p d a) open_in

four : {p : Rows} {d a : ℕ} → IsOpenTo p d a → a < 4
four (IsOpenTo.all h) = omega arith
four (IsOpenTo.subclasses h) = omega arith
four (IsOpenTo.nobody h) = omega arith
four (IsOpenTo.package_alone h i j) = omega arith

accesses_list : (p : Rows) (d : ℕ) → Lists (plain.accesses p d) (λ a. IsOpenTo p d a)
accesses_list p d = lists (λ a. plain.is_open_to p d a) (λ a. IsOpenTo p d a) (open_tells p d) 4 (λ a h. four h)

-- m is open less far than k
abbrev pub IsNarrower : Rows → ℕ → ℕ → Type 0
IsNarrower p m k = (a : ℕ) × IsOpenTo p m a × ((b : ℕ) × IsOpenTo p k b × (a < b))

pub narrower_tells : (p : Rows) (m k : ℕ) → Decides (plain.is_narrower p m k) (IsNarrower p m k)
narrower_tells p m k = some_of (λ a. list_any (λ b. nat_lt a b) (plain.accesses p k)) (λ a. (b : ℕ) × IsOpenTo p k b × (a < b))
    (λ a. some_of (λ b. nat_lt a b) (λ b. a < b) (λ b. Decides-ltb a b) (plain.accesses p k) (accesses_list p k)) (plain.accesses p m) (accesses_list p m)

-- ---- overriding and hiding

module _ (p : Rows) (t : Table) (headed : IsHeaded p) where
  from_above_tells : (c k : ℕ) → Decides (plain.is_from_above p t c k) ((s : ℕ) × DeclaredIn p s k × Above p t c s)
  from_above_tells c k = found_tells (λ s. DeclaredIn p s k) (λ s. is_above p t c s) (λ s. Above p t c s) (λ s. above_tells p t headed c s) (declaring_type p k) (declaring_finds p k)

  pub hiding_tells : (m k : ℕ) → Decides (plain.is_hiding p t m k) (Hides p t m k)
  hiding_tells m k = like
      (both (static_tells p m) (both (same_methods_tells p t headed m k)
      (found_tells (λ c. DeclaredIn p c m) (λ c. plain.is_from_above p t c k && can_inherit p c k) (λ c. ((s : ℕ) × DeclaredIn p s k × Above p t c s) × CanInherit p c k)
      (λ c. both (from_above_tells c k) (can_inherit_tells p c k)) (declaring_type p m) (declaring_finds p m))))
      (λ h. record {
        signatures = h.1.0;
        static = h.0;
        type = h.1.1.0;
        declared = h.1.1.1;
        upper = h.1.1.2.0.0;
        declares = h.1.1.2.0.1;
        above = h.1.1.2.0.2;
        reached = h.1.1.2.1;
      })
      (λ h. (h.static, (h.signatures, (h.type, h.declared, ((h.upper, h.declares, h.above), h.reached)))))

  module _ (over : Pairs) (pairs : (m k : ℕ) → Decides (among same_pair over (m, k)) (Overrides p t m k)) where
    redefines_out : (m k : ℕ) → Overrides p t m k ⊎ Hides p t m k → RedefinesMethod p t m k
    redefines_out m k (inl h) = RedefinesMethod.overriding h
    redefines_out m k (inr h) = RedefinesMethod.hiding h

    redefines_in : (m k : ℕ) → RedefinesMethod p t m k → Overrides p t m k ⊎ Hides p t m k
    redefines_in m k (RedefinesMethod.overriding h) = inl h
    redefines_in m k (RedefinesMethod.hiding h) = inr h

    pub redefines_tells : (m k : ℕ) → Decides (plain.redefines p t over m k) (RedefinesMethod p t m k)
    redefines_tells m k = like (either (pairs m k) (hiding_tells m k)) (redefines_out m k) (redefines_in m k)

    overridden_list : (m : ℕ) → Lists (plain.overridden p over m) (λ k. Overrides p t m k)
    overridden_list m = lists (λ k. among same_pair over (m, k)) (λ k. Overrides p t m k) (λ k. pairs m k) (length p) (λ k h. redefined_row (RedefinesMethod.overriding h))

    hidden_list : (m : ℕ) → Lists (plain.hidden p t m) (λ k. Hides p t m k)
    hidden_list m = lists (λ k. plain.is_hiding p t m k) (λ k. Hides p t m k) (λ k. hiding_tells m k) (length p) (λ k h. redefined_row (RedefinesMethod.hiding h))

    pub redefined_list : (m : ℕ) → Lists (plain.redefined p t over m) (λ k. RedefinesMethod p t m k)
    redefined_list m = lists (λ k. plain.redefines p t over m k) (λ k. RedefinesMethod p t m k) (λ k. redefines_tells m k) (length p) (λ k h. redefined_row h)

    pub other_result_tells : (m : ℕ) → Decides (plain.has_other_result p t over m) ((k : ℕ) × RedefinesMethod p t m k × (ResultFits p t m k → ⊥))
    other_result_tells m = some_of _ (λ k. ResultFits p t m k → ⊥) (λ k. opposite (result_tells p t headed m k)) (plain.redefined p t over m) (redefined_list m)

    pub narrowed_tells : (m : ℕ) → Decides (plain.is_narrowed p t over m) ((k : ℕ) × RedefinesMethod p t m k × IsNarrower p m k)
    narrowed_tells m = some_of _ (λ k. IsNarrower p m k) (λ k. narrower_tells p m k) (plain.redefined p t over m) (redefined_list m)

    pub mixed_tells : (m : ℕ) → Decides (plain.is_mixed p t over m) (((k : ℕ) × Hides p t m k × (IsStatic p k → ⊥)) ⊎ ((k : ℕ) × Overrides p t m k × IsStatic p k))
    mixed_tells m = either (some_of _ (λ k. IsStatic p k → ⊥) (λ k. opposite (static_tells p k)) (plain.hidden p t m) (hidden_list m))
        (some_of (λ k. is_static p k) (λ k. IsStatic p k) (λ k. static_tells p k) (plain.overridden p over m) (overridden_list m))

    pub over_final_tells : (m : ℕ) → Decides (plain.is_over_final p t over m) ((k : ℕ) × RedefinesMethod p t m k × IsTrue (written (label p k)).is_final)
    over_final_tells m = some_of (λ k. (written (label p k)).is_final) (λ k. IsTrue (written (label p k)).is_final) (λ k. itself (written (label p k)).is_final) (plain.redefined p t over m) (redefined_list m)
