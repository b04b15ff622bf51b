-- The tests of declarations and references tell what they are to tell.
use Rattle.std.proofs.Common.{◌≡◌, ◌⊎◌, refl, sym, subst, inl, inr, ⊎_elim, ℕ, codes, Option, Decides}
use Rattle.std.proofs.lemmas.Bool.{false≢true}
use Rattle.std.proofs.lemmas.Bool.Decides.{Decides-eqb}
use Rattle.std.proofs.lemmas.Slice.Eq.{bytes_eq-Decides}
use Rattle.jr_base.specs.declared.text.Text.{Text}
use Rattle.jr_tree.specs.declared.label.Label.{Label}
use Rattle.jr_tree.specs.declared.label.Label.TheVariants as is
use Rattle.jr_tree.specs.declared.label.NamePlace.TheVariants as place
use Rattle.jr_tree.specs.declared.label.Role.{Role}
use Rattle.jr_tree.specs.declared.label.Role.TheVariants as role
use Rattle.jr_tree.specs.declared.label.Sought.{Sought}
use Rattle.jr_tree.specs.declared.label.Sought.TheVariants as sought
use Rattle.jr_tree.specs.Rows.{Rows, label, name, parent, role_at, sought_at}
use Rattle.jr_defs.specs.declared.referent.Space.{Space}
use Rattle.jr_defs.specs.declared.referent.Space.TheVariants as space
use Rattle.jr_defs.specs.declared.referent.Referent.{Referent}
use Rattle.jr_defs.specs.declared.referent.Referent.TheVariants.{Package, Declared}
use Rattle.jr_defs.specs.Referents.{Table}
use Rattle.jr_defs.specs.Declarations.{IsOf, Declares, IsType, IsClassLabel, IsInterfaceLabel, IsClass, IsInterface, IsVariable, IsPrelude, IsObject, IsString, IsOccurrence, IsBeforeDotLabel, IsPart, IsReference}
use Rattle.jr_plain.specs.Declarations as plain
use Rattle.jr_plain.proofs.Same.{role_tells}
use Rattle.jr_plain.proofs.Tests.{always, never, both, like, opposite}

pub of_tells : (s : Space) (r : Role) → Decides (plain.is_of s r) (IsOf s r)
of_tells space.Type role.Type = always
of_tells space.Variable role.Field = always
of_tells space.Variable role.Parameter = always
of_tells space.Variable role.Local = always
of_tells space.Method role.Method = always
of_tells space.Label role.Label = always
of_tells _ _ = never

pub declares_tells : (p : Rows) (kind : Space) (x : Text) (d : ℕ) → Decides (plain.declares p kind x d) (Declares p kind x d)
declares_tells p kind x d = like (both (of_tells kind (role_at p d)) (bytes_eq-Decides (name p d) x)) (λ h. record { of_kind = h.0; named = h.1 }) (λ h. (h.of_kind, h.named))

pub type_tells : (p : Rows) (c : ℕ) → Decides (plain.is_type p c) (IsType p c)
type_tells p c = role_tells (role_at p c) role.Type

class_label_tells : (l : Label) → Decides (plain.is_class_label l) (IsClassLabel l)
class_label_tells (is.Class m b) = always
class_label_tells _ = never

interface_label_tells : (l : Label) → Decides (plain.is_interface_label l) (IsInterfaceLabel l)
interface_label_tells (is.Interface m b) = always
interface_label_tells _ = never

pub class_tells : (p : Rows) (c : ℕ) → Decides (plain.is_class p c) (IsClass p c)
class_tells p c = class_label_tells (label p c)

pub interface_tells : (p : Rows) (c : ℕ) → Decides (plain.is_interface p c) (IsInterface p c)
interface_tells p c = interface_label_tells (label p c)

pub variable_tells : (p : Rows) (d : ℕ) → Decides (plain.is_variable p d) (IsVariable p d)
variable_tells p d = of_tells space.Variable (role_at p d)

pub prelude_tells : (p : Rows) (x : Text) (c : ℕ) → Decides (plain.is_prelude p x c) (IsPrelude p x c)
prelude_tells p x c = like (both (both (type_tells p c) (Decides-eqb (parent p c) 1)) (bytes_eq-Decides (name p c) x))
    (λ h. record { type = h.0.0; inside = h.0.1; named = h.1 }) (λ h. ((h.type, h.inside), h.named))

pub object_tells : (p : Rows) (c : ℕ) → Decides (plain.is_object p c) (IsObject p c)
object_tells p c = prelude_tells p (codes "Object") c

pub string_tells : (p : Rows) (c : ℕ) → Decides (plain.is_string p c) (IsString p c)
string_tells p c = prelude_tells p (codes "String") c

nothing_tells : (s : Sought) → Decides (plain.is_nothing s) (s ≡ sought.Nothing)
nothing_tells sought.Nothing = (λ h. refl, λ e. refl)
nothing_tells _ = (λ h. absurd (false≢true h), λ e. absurd (cc))

implicit_tells : (l : Label) → Decides (plain.is_implicit_call l) (l ≡ is.ImplicitCall)
implicit_tells is.ImplicitCall = (λ h. refl, λ e. refl)
implicit_tells _ = (λ h. absurd (false≢true h), λ e. absurd (cc))

pub occurrence_tells : (p : Rows) (o : ℕ) → Decides (plain.is_occurrence p o) (IsOccurrence p o)
occurrence_tells p o = like (both (opposite (nothing_tells (sought_at p o))) (opposite (both (implicit_tells (label p o)) (object_tells p (parent p (parent p (parent p o)))))))
    (λ h. record { seeks = h.0; above = λ e i. h.1 (e, i) }) (λ h. (h.seeks, λ k. h.above k.0 k.1))

before_dot_tells : (l : Label) → Decides (plain.is_before_dot l) (IsBeforeDotLabel l)
before_dot_tells (is.Name kind place.Qualifier b) = always
before_dot_tells (is.Name kind place.Receiver b) = always
before_dot_tells _ = never

-- a package, or a declaration that is a type
abbrev IsPackageOrType : Rows → Referent → Type 0
IsPackageOrType p a = (a ≡ Package) ⊎ ((d : ℕ) × (level : Option ℕ) × (a ≡ Declared d level) × IsType p d)

package_or_type_tells : (p : Rows) (a : Referent) → Decides (plain.is_package_or_type p a) (IsPackageOrType p a)
package_or_type_tells p Package = (λ h. inl refl, λ h. refl)
package_or_type_tells p (Declared d level) = like (type_tells p d) (λ h. inr (d, level, refl, h)) (⊎_elim (λ e. absurd (cc)) (λ h. let e = h.2 in subst (λ c. IsType p c) (sym (row_of e)) h.3))
  where
    row_of : {a b : ℕ} {l m : Option ℕ} → Declared a l ≡ Declared b m → a ≡ b
    row_of e = cc
package_or_type_tells p _ = (λ h. absurd (false≢true h), ⊎_elim (λ e. absurd (cc)) (λ h. let e = h.2 in absurd (cc)))

pub part_tells : (p : Rows) (t : Table) (o : ℕ) → Decides (plain.is_part p t o) (IsPart p t o)
part_tells p t o = like (both (before_dot_tells (label p o)) (package_or_type_tells p (t o))) out into
  where
    out : IsBeforeDotLabel (label p o) × IsPackageOrType p (t o) → IsPart p t o
    out h = ⊎_elim (λ e. IsPart.of_package h.0 e) (λ k. IsPart.of_type h.0 k.2 k.3) h.1

    into : IsPart p t o → IsBeforeDotLabel (label p o) × IsPackageOrType p (t o)
    into (IsPart.of_package b e) = (b, inl e)
    into (IsPart.of_type {d = d} {level = level} b e k) = (b, inr (d, level, e, k))

pub reference_tells : (p : Rows) (t : Table) (o : ℕ) → Decides (plain.is_reference p t o) (IsReference p t o)
reference_tells p t o = like (both (occurrence_tells p o) (opposite (part_tells p t o))) (λ h. record { occurs = h.0; whole = h.1 }) (λ h. (h.occurs, h.whole))
