-- The tests of modifiers tell what they are to tell.
use Rattle.std.proofs.Common.{◌≡◌, ◌⊎◌, refl, sym, subst, inl, inr, ⊎_elim, ℕ, Bool, true, false, Option, Some, None, is_some, Decides}
use Rattle.std.specs.Option.{option_map_or}
use Rattle.std.proofs.lemmas.Bool.{false≢true}
use Rattle.std.proofs.lemmas.Option.{none-some, same_Some}
use Rattle.jr_tree.specs.declared.label.Label.{Label}
use Rattle.jr_tree.specs.declared.label.Label.TheVariants as is
use Rattle.jr_tree.specs.declared.label.Role.TheVariants as role
use Rattle.jr_tree.specs.Rows.{Rows, label, role_at}
use Rattle.jr_defs.specs.Declarations.{IsType, IsInterface}
use Rattle.jr_defs.specs.Enclosing.{DeclaredIn, ConstructorOf}
use Rattle.jr_defs.specs.Modifiers.{written, access_of, final_variable, InInterface, IsDefaultInInterface, IsPublic, IsProtected, IsPrivate, IsStatic, IsFinal, IsAbstract, IsInner}
use Rattle.jr_plain.specs.Search.{Finds}
use Rattle.jr_plain.specs.Enclosing.{declaring_type, constructed_class}
use Rattle.jr_plain.specs.Modifiers as plain
use Rattle.jr_plain.proofs.Tests.{itself, never, both, either, opposite, like}
use Rattle.jr_plain.proofs.Same.{role_tells}
use Rattle.jr_plain.proofs.Declared.{type_tells, class_tells, interface_tells}
use Rattle.jr_plain.proofs.Enclosed.{declaring_finds, constructed_finds}

module _ {A : Type 0} (P : A → Type 0) where
  -- what is found passes a test
  pub found_tells : (test : A → Bool) (Q : A → Type 0) → ((a : A) → Decides (test a) (Q a)) → (found : Option A) → Finds found P → Decides (option_map_or test found false) ((a : A) × P a × Q a)
  found_tells test Q tells None finds = like never (λ h. absurd h) (λ h. none-some h.0 ((finds h.0).1 h.1))
  found_tells test Q tells (Some a) finds = (λ h. (a, (finds a).0 refl, (tells a).0 h), λ h. (tells a).1 (subst Q (sym (same_Some a h.0 ((finds h.0).1 h.1))) h.2))

  -- something is found
  pub some_tells : (found : Option A) → Finds found P → Decides (is_some found) ((a : A) × P a)
  some_tells None finds = like never (λ h. absurd h) (λ h. none-some h.0 ((finds h.0).1 h.1))
  some_tells (Some a) finds = (λ h. (a, (finds a).0 refl), λ h. refl)

pub in_interface_tells : (p : Rows) (d : ℕ) → Decides (plain.is_in_interface p d) (InInterface p d)
in_interface_tells p d = like (found_tells (λ c. DeclaredIn p c d) _ (λ c. IsInterface p c) (interface_tells p) (declaring_type p d) (declaring_finds p d))
    (λ h. record { of_type = h.0; interface = h.2; declared = h.1 }) (λ h. (h.of_type, h.declared, h.interface))

default_tells : (l : Label) → Decides (plain.is_default_constructor l) (l ≡ is.DefaultConstructor)
default_tells is.DefaultConstructor = (λ h. refl, λ e. refl)
default_tells _ = (λ h. absurd (false≢true h), λ e. absurd (cc))

pub default_in_interface_tells : (p : Rows) (d : ℕ) → Decides (plain.is_default_in_interface p d) (IsDefaultInInterface p d)
default_in_interface_tells p d = like
    (both (default_tells (label p d)) (found_tells (λ c. ConstructorOf p c d) _ (λ c. InInterface p c) (in_interface_tells p) (constructed_class p d) (constructed_finds p d)))
    (λ h. record { default = h.0; of_class = h.1.0; constructs = h.1.1; declared = h.1.2 }) (λ h. (h.default, (h.of_class, h.constructs, h.declared)))

pub public_tells : (p : Rows) (d : ℕ) → Decides (plain.is_public p d) (IsPublic p d)
public_tells p d = either (itself (access_of p d).is_public) (either (in_interface_tells p d) (default_in_interface_tells p d))

pub protected_tells : (p : Rows) (d : ℕ) → Decides (plain.is_protected p d) (IsProtected p d)
protected_tells p d = itself (access_of p d).is_protected

pub private_tells : (p : Rows) (d : ℕ) → Decides (plain.is_private p d) (IsPrivate p d)
private_tells p d = itself (access_of p d).is_private

pub static_tells : (p : Rows) (d : ℕ) → Decides (plain.is_static p d) (IsStatic p d)
static_tells p d = like
    (either (either (itself (written (label p d)).is_static) (both (either (role_tells (role_at p d) role.Field) (type_tells p d)) (in_interface_tells p d))) (interface_tells p d)) out into
  where
    out : (((written (label p d)).is_static ≡ true) ⊎ (((role_at p d ≡ role.Field) ⊎ IsType p d) × InInterface p d)) ⊎ IsInterface p d → IsStatic p d
    out (inl (inl h)) = IsStatic.written_so h
    out (inl (inr h)) = ⊎_elim (λ f. IsStatic.field f h.1) (λ t. IsStatic.type t h.1) h.0
    out (inr h) = IsStatic.interface h

    into : IsStatic p d → (((written (label p d)).is_static ≡ true) ⊎ (((role_at p d ≡ role.Field) ⊎ IsType p d) × InInterface p d)) ⊎ IsInterface p d
    into (IsStatic.written_so h) = inl (inl h)
    into (IsStatic.field f h) = inl (inr (inl f, h))
    into (IsStatic.type t h) = inl (inr (inr t, h))
    into (IsStatic.interface h) = inr h

pub final_tells : (p : Rows) (d : ℕ) → Decides (plain.is_final p d) (IsFinal p d)
final_tells p d = like (either (itself (final_variable (label p d))) (both (role_tells (role_at p d) role.Field) (in_interface_tells p d))) out into
  where
    out : (final_variable (label p d) ≡ true) ⊎ ((role_at p d ≡ role.Field) × InInterface p d) → IsFinal p d
    out (inl h) = IsFinal.written_so h
    out (inr h) = IsFinal.field h.0 h.1

    into : IsFinal p d → (final_variable (label p d) ≡ true) ⊎ ((role_at p d ≡ role.Field) × InInterface p d)
    into (IsFinal.written_so h) = inl h
    into (IsFinal.field f h) = inr (f, h)

pub abstract_tells : (p : Rows) (d : ℕ) → Decides (plain.is_abstract p d) (IsAbstract p d)
abstract_tells p d = like
    (either (either (itself (written (label p d)).is_abstract) (both (role_tells (role_at p d) role.Method) (in_interface_tells p d))) (interface_tells p d)) out into
  where
    out : (((written (label p d)).is_abstract ≡ true) ⊎ ((role_at p d ≡ role.Method) × InInterface p d)) ⊎ IsInterface p d → IsAbstract p d
    out (inl (inl h)) = IsAbstract.written_so h
    out (inl (inr h)) = IsAbstract.method h.0 h.1
    out (inr h) = IsAbstract.interface h

    into : IsAbstract p d → (((written (label p d)).is_abstract ≡ true) ⊎ ((role_at p d ≡ role.Method) × InInterface p d)) ⊎ IsInterface p d
    into (IsAbstract.written_so h) = inl (inl h)
    into (IsAbstract.method m h) = inl (inr (m, h))
    into (IsAbstract.interface h) = inr h

pub inner_tells : (p : Rows) (c : ℕ) → Decides (plain.is_inner p c) (IsInner p c)
inner_tells p c = like (both (both (class_tells p c) (some_tells (λ e. DeclaredIn p e c) (declaring_type p c) (declaring_finds p c))) (opposite (static_tells p c)))
    (λ h. record { class = h.0.0; around = h.0.1.0; member = h.0.1.1; instance = h.1 }) (λ h. ((h.class, (h.around, h.member)), h.instance))
