-- The tests of bodies, constructors and initializers tell what they are to tell.
use Rattle.std.proofs.Common.{◌≡◌, ◌⊎◌, refl, ℕ, ◌+◌, Bool, true, false, not, ◌&&◌, IsTrue, bytes_eq, Decides}
use Rattle.std.proofs.lemmas.Bool.{false≢true}
use Rattle.std.proofs.lemmas.Bool.Decides.{Decides-eqb}
use Rattle.std.proofs.lemmas.Slice.Eq.{bytes_eq-Decides}
use Rattle.jr_tree.specs.declared.label.Label.{Label}
use Rattle.jr_tree.specs.declared.label.Label.TheVariants as is
use Rattle.jr_tree.specs.declared.label.Modifiers.{Modifiers}
use Rattle.jr_tree.specs.declared.label.Role.TheVariants as role
use Rattle.jr_tree.specs.Rows.{Rows, label, name, parent, role_at}
use Rattle.jr_defs.specs.Declarations.{IsClass, IsInterface}
use Rattle.jr_defs.specs.Enclosing.{BodyOf, DeclaredIn, ConstructorOf}
use Rattle.jr_defs.specs.Modifiers.{written, IsAbstract, InInterface}
use Rattle.jr_defs.specs.MemberRules.{has_body, IsInitializer, HasInitializer}
use Rattle.jr_plain.specs.Search.{Finds}
use Rattle.jr_plain.specs.Declarations.{is_class, is_interface}
use Rattle.jr_plain.specs.Enclosing.{is_body_of, declaring_type, constructed_class}
use Rattle.jr_plain.specs.Modifiers.{is_abstract}
use Rattle.jr_plain.proofs.Tests.{itself, always, never, both, either, opposite}
use Rattle.jr_plain.proofs.Same.{role_tells}
use Rattle.jr_plain.proofs.Declared.{class_tells, interface_tells}
use Rattle.jr_plain.proofs.Enclosed.{body_tells, only, declaring_finds, constructed_finds}
use Rattle.jr_plain.proofs.Modified.{found_tells, in_interface_tells, abstract_tells}
use Rattle.jr_member_rules.specs.Bodies as plain

-- what is not so is false
without : (b : Bool) → Decides (not b) (b ≡ false)
without true = (λ h. absurd (false≢true h), λ e. absurd (false≢true (cc)))
without false = (λ h. refl, λ e. refl)

constructor_label_tells : (l : Label) → Decides (plain.is_constructor_label l) ((modifiers : Modifiers) × (l ≡ is.Constructor modifiers))
constructor_label_tells (is.Constructor modifiers) = (λ h. (modifiers, refl), λ h. refl)
constructor_label_tells _ = (λ h. absurd (false≢true h), λ h. let e = h.1 in absurd (cc))

initializer_tells : (l : Label) → Decides (plain.is_initializer l) (IsInitializer l)
initializer_tells (is.Initializer b) = always
initializer_tells _ = never

pub body_type_finds : (p : Rows) (k : ℕ) → Finds (plain.body_type p k) (λ c. BodyOf p c (parent p k))
body_type_finds p k = let c = parent p (parent p k) in
    only (λ c. BodyOf p c (parent p k)) c (is_body_of p c (parent p k)) (body_tells p c (parent p k)) (λ x h. h.inside)

-- the modifier `native` is written
abbrev pub IsNative : Rows → ℕ → Type 0
IsNative p m = IsTrue (written (label p m)).is_native

abbrev pub HasBodyThere : Rows → ℕ → Type 0
HasBodyThere p m = (IsAbstract p m ⊎ IsNative p m) × (has_body (label p m) ≡ true)

abbrev pub LacksBody : Rows → ℕ → Type 0
LacksBody p m = ((IsAbstract p m → ⊥) × (IsNative p m → ⊥)) × (has_body (label p m) ≡ false)

pub wrong_body_tells : (p : Rows) (m : ℕ) → Decides (plain.has_wrong_body p m) ((role_at p m ≡ role.Method) × (HasBodyThere p m ⊎ LacksBody p m))
wrong_body_tells p m = both (role_tells (role_at p m) role.Method)
    (either (both (either (abstract_tells p m) (itself (plain.is_native p m))) (itself (has_body (label p m))))
    (both (both (opposite (abstract_tells p m)) (opposite (itself (plain.is_native p m)))) (without (has_body (label p m)))))

abbrev pub IsNamedOtherwise : Rows → ℕ → Type 0
IsNamedOtherwise p k = ((modifiers : Modifiers) × (label p k ≡ is.Constructor modifiers)) × ((c : ℕ) × ConstructorOf p c k × (name p k ≡ name p c → ⊥))

pub named_otherwise_tells : (p : Rows) (k : ℕ) → Decides (plain.is_named_otherwise p k) (IsNamedOtherwise p k)
named_otherwise_tells p k = both (constructor_label_tells (label p k))
    (found_tells (λ c. ConstructorOf p c k) (λ c. not (bytes_eq (name p k) (name p c))) (λ c. name p k ≡ name p c → ⊥) (λ c. opposite (bytes_eq-Decides (name p k) (name p c)))
    (constructed_class p k) (constructed_finds p k))

abbrev pub IsAbstractInClass : Rows → ℕ → Type 0
IsAbstractInClass p m = ((role_at p m ≡ role.Method) × IsAbstract p m) × ((c : ℕ) × DeclaredIn p c m × (IsClass p c × (IsAbstract p c → ⊥)))

pub abstract_in_class_tells : (p : Rows) (m : ℕ) → Decides (plain.is_abstract_in_class p m) (IsAbstractInClass p m)
abstract_in_class_tells p m = both (both (role_tells (role_at p m) role.Method) (abstract_tells p m))
    (found_tells (λ c. DeclaredIn p c m) (λ c. is_class p c && not (is_abstract p c)) (λ c. IsClass p c × (IsAbstract p c → ⊥)) (λ c. both (class_tells p c) (opposite (abstract_tells p c)))
    (declaring_type p m) (declaring_finds p m))

pub constructor_in_interface_tells : (p : Rows) (k : ℕ) → Decides (plain.is_constructor_in_interface p k) ((c : ℕ) × ConstructorOf p c k × IsInterface p c)
constructor_in_interface_tells p k = found_tells (λ c. ConstructorOf p c k) (is_interface p) (λ c. IsInterface p c) (interface_tells p) (constructed_class p k) (constructed_finds p k)

pub initializer_in_interface_tells : (p : Rows) (k : ℕ)
    → Decides (plain.is_initializer_in_interface p k) (IsInitializer (label p k) × ((c : ℕ) × BodyOf p c (parent p k) × IsInterface p c))
initializer_in_interface_tells p k = both (initializer_tells (label p k))
    (found_tells (λ c. BodyOf p c (parent p k)) (is_interface p) (λ c. IsInterface p c) (interface_tells p) (plain.body_type p k) (body_type_finds p k))

pub not_initialized_tells : (p : Rows) (d : ℕ) → Decides (plain.is_not_initialized p d) (((role_at p d ≡ role.Field) × InInterface p d) × (HasInitializer p d → ⊥))
not_initialized_tells p d = both (both (role_tells (role_at p d) role.Field) (in_interface_tells p d)) (opposite (Decides-eqb (parent p (d + 1)) d))
