-- Rows that stand as their labels may are formed.
use Rattle.std.proofs.Common.{◌≡◌, ◌⊎◌, ℕ, suc, zero, ◌+◌, ◌<◌, ◌≤◌, refl, sym, ◌∙◌, ap, subst, inl, inr, arith, [], length}
use Rattle.std.proofs.lemmas.List.{get_or_past}
use Rattle.std.specs.Prelude.{Bool, true, false, Option, Some, None}
use Rattle.jr_tree.specs.declared.label.Label.{Label}
use Rattle.jr_tree.specs.declared.label.Label.TheVariants as is
use Rattle.jr_tree.specs.declared.label.ImportKind.{ImportKind}
use Rattle.jr_tree.specs.declared.label.NameKind.{NameKind}
use Rattle.jr_tree.specs.declared.label.NameKind.TheVariants as kind
use Rattle.jr_tree.specs.declared.label.NamePlace.{NamePlace}
use Rattle.jr_tree.specs.declared.label.NamePlace.TheVariants as place
use Rattle.jr_tree.specs.declared.label.Role.TheVariants as role
use Rattle.jr_tree.specs.declared.label.Sought.{Sought}
use Rattle.jr_tree.specs.declared.label.Sought.TheVariants as sought
use Rattle.jr_tree.specs.declared.row.Row.{Row}
use Rattle.jr_tree.specs.Exprs.{left_kind}
use Rattle.jr_tree.specs.Labels.{role_of, sought_by, name_sought}
use Rattle.jr_tree.specs.Rows.{Rows, row, label, parent, end, role_at, sought_at}
use Rattle.jr_tree.specs.Below.{IsQualifier, IsOtherName, IsTypeLabel, IsUnitOrBody, IsUnitLabel, IsProgramLabel, Under, IsQualifierOf, IsTypeName}
use Rattle.jr_tree.specs.Local.{HasQualifier, HasTypeName, StartsAt, IsLocal}
use Rattle.jr_defs.specs.Declarations.{IsType, IsObject}
use Rattle.jr_defs.specs.Enclosing.{BodyOf, InBody, DeclaredIn, InTopLevel, IsMemberRole, holder}
use Rattle.jr_defs.specs.Supertypes.{IsSuperclassLabel, IsSuperinterfaceLabel}
use Rattle.jr_defs.specs.Headers.{NamesHeader, IsIdentifierOf}
use Rattle.jr_defs.specs.Formed.{SeeksType, IsNameLabel, SeeksKind, NamesTypeFirst, IsFormed}
use Rattle.jr_defs.proofs.TypingSame.{name_label}

-- ---- labels

abbrev pub HeaderLabel : Label → Type 0
HeaderLabel l = IsSuperclassLabel l ⊎ IsSuperinterfaceLabel l

super_under : (over : Label) (k : NameKind) (b : Bool) → Under over (is.Name k place.Superclass b) → IsTypeLabel over × (k ≡ kind.Type)
super_under (is.Name j a c) k b u = absurd u
super_under (is.Import f) k b u = absurd u
super_under is.Package k b u = absurd u
super_under _ k b u = u

face_under : (over : Label) (k : NameKind) (b : Bool) → Under over (is.Name k place.Superinterface b) → IsTypeLabel over × (k ≡ kind.Type)
face_under (is.Name j a c) k b u = absurd u
face_under (is.Import f) k b u = absurd u
face_under is.Package k b u = absurd u
face_under _ k b u = u

type_seeks : (b : Bool) → SeeksType (name_sought kind.Type b)
type_seeks true = tt
type_seeks false = tt

package_or_type_seeks : (b : Bool) → SeeksType (name_sought kind.PackageOrType b)
package_or_type_seeks true = tt
package_or_type_seeks false = tt

kind_seeks : (k : NameKind) (b : Bool) → k ≡ kind.Type → SeeksType (name_sought k b)
kind_seeks k b e = subst (λ k. SeeksType (name_sought k b)) (sym e) (type_seeks b)

super_facts : (over l : Label) → IsSuperclassLabel l → Under over l → IsTypeLabel over × SeeksType (sought_by l)
super_facts over (is.Name k place.Superclass b) h u = let w = super_under over k b u in (w.0, kind_seeks k b w.1)
super_facts over _ h u = absurd h

face_facts : (over l : Label) → IsSuperinterfaceLabel l → Under over l → IsTypeLabel over × SeeksType (sought_by l)
face_facts over (is.Name k place.Superinterface b) h u = let w = face_under over k b u in (w.0, kind_seeks k b w.1)
face_facts over _ h u = absurd h

header_facts : (over l : Label) → HeaderLabel l → Under over l → IsTypeLabel over × SeeksType (sought_by l)
header_facts over l (inl h) u = super_facts over l h u
header_facts over l (inr h) u = face_facts over l h u

type_label : (l : Label) → IsTypeLabel l → role_of l ≡ role.Type
type_label (is.Class m b) h = refl
type_label (is.Interface m b) h = refl
type_label _ h = absurd h

label_type : (l : Label) → role_of l ≡ role.Type → IsTypeLabel l
label_type (is.Class m b) e = tt
label_type (is.Interface m b) e = tt
label_type _ e = absurd (cc)

type_name_seeks : (l : Label) → IsTypeName l → SeeksType (sought_by l)
type_name_seeks (is.Name kind.Type a b) h = type_seeks b
type_name_seeks (is.Name kind.PackageOrType a b) h = package_or_type_seeks b
type_name_seeks _ h = absurd h

qualifier_name : (l : Label) → IsQualifier l → IsNameLabel l
qualifier_name (is.Name k a b) h = tt
qualifier_name _ h = absurd h

other_name : (l : Label) → IsOtherName l → IsNameLabel l
other_name (is.Name k a b) h = tt
other_name _ h = absurd h

name_under : (over l : Label) → IsNameLabel over → Under over l → IsNameLabel l
name_under (is.Name k a b) l h u = qualifier_name l u
name_under _ l h u = absurd h

import_over : (over : Label) (f : ImportKind) → Under over (is.Import f) → IsUnitLabel over
import_over (is.Name k a b) f u = absurd u
import_over (is.Import g) f u = absurd u
import_over is.Package f u = absurd u
import_over _ f u = u

unit_over : (over : Label) → Under over is.Unit → IsProgramLabel over
unit_over (is.Name k a b) u = absurd u
unit_over (is.Import g) u = absurd u
unit_over is.Package u = absurd u
unit_over _ u = u

program_over : (over : Label) → Under over is.Program → ⊥
program_over (is.Name k a b) u = u
program_over (is.Import g) u = u
program_over is.Package u = u
program_over _ u = u

body_over : (over : Label) → Under over is.Body → IsTypeLabel over
body_over (is.Name k a b) u = absurd u
body_over (is.Import g) u = absurd u
body_over is.Package u = absurd u
body_over _ u = u

class_over : (over : Label) (m : _) (c : Bool) → Under over (is.Class m c) → IsUnitOrBody over
class_over (is.Name k a b) m c u = absurd u
class_over (is.Import g) m c u = absurd u
class_over is.Package m c u = absurd u
class_over _ m c u = u

interface_over : (over : Label) (m : _) (c : Bool) → Under over (is.Interface m c) → IsUnitOrBody over
interface_over (is.Name k a b) m c u = absurd u
interface_over (is.Import g) m c u = absurd u
interface_over is.Package m c u = absurd u
interface_over _ m c u = u

type_over : (over l : Label) → IsTypeLabel l → Under over l → IsUnitOrBody over
type_over over (is.Class m c) h u = class_over over m c u
type_over over (is.Interface m c) h u = interface_over over m c u
type_over over _ h u = absurd h

unit_or_body : (l : Label) → IsUnitOrBody l → (l ≡ is.Unit) ⊎ (l ≡ is.Body)
unit_or_body is.Unit h = inl refl
unit_or_body is.Body h = inr refl
unit_or_body _ h = absurd h

is_unit : (l : Label) → IsUnitLabel l → l ≡ is.Unit
is_unit is.Unit h = refl
is_unit _ h = absurd h

is_program : (l : Label) → IsProgramLabel l → l ≡ is.Program
is_program is.Program h = refl
is_program _ h = absurd h

seeks_name : (l : Label) → SeeksType (sought_by l) → IsNameLabel l
seeks_name l h = by_sought (sought_by l) refl h
  where
    by_sought : (s : Sought) → sought_by l ≡ s → SeeksType s → IsNameLabel l
    by_sought (sought.Simple k) e h = name_label l (sought.Simple k) e k (inl refl)
    by_sought (sought.Qualified k) e h = name_label l (sought.Qualified k) e k (inr refl)
    by_sought _ e h = absurd h

abbrev IsBodyRow : Label → Type 0
IsBodyRow is.Body = Unit {0}
IsBodyRow _ = ⊥

abbrev IsImport : Label → Type 0
IsImport (is.Import f) = Unit {0}
IsImport _ = ⊥

-- ---- rows

module _ (p : Rows) (h : IsLocal p) where
  side : (n : ℕ) → (n < length p) ⊎ (length p ≤ n)
  side n = grind arith

  past : (n : ℕ) → length p ≤ n → row p n ≡ record { label = is.Skip; name = []; parent = n; end = n + 1; previous = n }
  past n le = get_or_past p n (record { label = is.Skip; name = []; parent = n; end = n + 1; previous = n }) le

  -- a row of some label is there, and is not the program
  there : (P : Label → Type 0) (n : ℕ) → (P is.Skip → ⊥) → P (label p n) → n < length p
  there P n no' w = elim (side n) [ inl l ↦ l | inr g ↦ absurd (no' (subst (λ r. P r.label) (past n g) w)) ]

  behind : (P : Label → Type 0) (n : ℕ) → (P is.Program → ⊥) → P (label p n) → 0 < n
  behind P zero no' w = absurd (no' (subst P h.program w))
  behind P (suc n) no' w = omega arith

  under_at : (P : Label → Type 0) (n : ℕ) → (P is.Skip → ⊥) → (P is.Program → ⊥) → P (label p n) → Under (label p (parent p n)) (label p n)
  under_at P n a b w = h.under n (behind P n b w) (there P n a w)

  starts_at : (P : Label → Type 0) (n : ℕ) → (P is.Skip → ⊥) → (P is.Program → ⊥) → P (label p n) → StartsAt p n (label p n)
  starts_at P n a b w = h.starts n (behind P n b w) (there P n a w)

  child_there : (n m : ℕ) → parent p m ≡ n → n < m → m < length p
  child_there n m e lt = elim (side m) [ inl l ↦ l | inr g ↦ (let z = ap (λ r. r.parent) (past m g) in let y : m ≡ n = sym z ∙ e in absurd (omega arith)) ]

  child_held : (n m : ℕ) → parent p m ≡ n → n < m → m < end p n
  child_held n m e lt = let l = child_there n m e lt in let z = h.tree.held m l (omega arith) in subst (λ k. m < end p k) e z

  program_row : (v : ℕ) → label p v ≡ is.Program → v ≡ 0
  program_row zero e = refl
  program_row (suc v) e = let l = there IsProgramLabel (suc v) (λ x. x) (subst IsProgramLabel (sym e) tt) in
      absurd (program_over (label p (parent p (suc v))) (subst (Under (label p (parent p (suc v)))) e (h.under (suc v) (omega arith) l)))

  unit_parent : (w : ℕ) → label p w ≡ is.Unit → parent p w ≡ 0
  unit_parent w e = program_row (parent p w) (is_program (label p (parent p w)) (unit_over (label p (parent p w))
      (subst (Under (label p (parent p w))) e (under_at IsUnitLabel w (λ x. x) (λ x. x) (subst IsUnitLabel (sym e) tt)))))

  -- no unit stands inside a row but the program
  no_unit_inside : (b w : ℕ) → label p w ≡ is.Unit → b < w → w < end p b → b ≡ 0
  no_unit_inside b w e lt hi = let z = h.tree.inner b w lt hi in let y = unit_parent w e in omega arith

  -- what stands inside an import or a name is a name
  name_here : (i : ℕ) → ((m : ℕ) → parent p m ≡ i → i < m → IsNameLabel (label p m)) → (m : ℕ) → i < m → m < end p i
      → ((v : ℕ) → v < m → i < v → v < end p i → IsNameLabel (label p v)) → IsNameLabel (label p m)
  name_here i first m lo hi before = by_parent (split (parent p m) (h.tree.inner i m lo hi))
    where
      l : m < length p
      l = elim (side i) [ inl x ↦ (let z = h.tree.last i x in omega arith) | inr g ↦ (let z = ap (λ r. r.end) (past i g) in absurd (omega arith)) ]

      up : parent p m < m
      up = h.tree.up m l (omega arith)

      split : (v : ℕ) → i ≤ v → (v ≡ i) ⊎ (i < v)
      split v le = grind arith

      by_parent : (parent p m ≡ i) ⊎ (i < parent p m) → IsNameLabel (label p m)
      by_parent (inl e) = first m e lo
      by_parent (inr lt) = let x = up in name_under (label p (parent p m)) (label p m) (before (parent p m) x lt (omega arith)) (h.under m (omega arith) l)

  names_inside : (i : ℕ) → ((m : ℕ) → parent p m ≡ i → i < m → IsNameLabel (label p m)) → (j m : ℕ) → m ≤ j → i < m → m < end p i → IsNameLabel (label p m)
  names_inside i first zero m le lo hi = absurd (omega arith)
  names_inside i first (suc j) m le lo hi = name_here i first m lo hi (λ v lt lo' hi'. names_inside i first j v (omega arith) lo' hi')

  import_child : (i : ℕ) (form : ImportKind) → label p i ≡ is.Import form → (m : ℕ) → parent p m ≡ i → i < m → IsNameLabel (label p m)
  import_child i form e m q lt = let u = h.under m (omega arith) (child_there i m q lt) in
      other_name (label p m) (subst (λ x. Under x (label p m)) (ap (label p) q ∙ e) u)

  inside_import : (i : ℕ) (form : ImportKind) → label p i ≡ is.Import form → (m : ℕ) → i < m → m < end p i → IsNameLabel (label p m)
  inside_import i form e m lo hi = names_inside i (import_child i form e) m m (omega arith) lo hi

  name_child : (n m : ℕ) → IsNameLabel (label p n) → parent p m ≡ n → n < m → IsNameLabel (label p m)
  name_child n m k e lt = let u = h.under m (omega arith) (child_there n m e lt) in
      name_under (label p n) (label p m) k (subst (λ v. Under (label p v) (label p m)) e u)

  inside_name : (n : ℕ) → IsNameLabel (label p n) → (m : ℕ) → n < m → m < end p n → IsNameLabel (label p m)
  inside_name n k m lo hi = names_inside n (λ m e lt. name_child n m k e lt) m m (omega arith) lo hi

  import_parent : (i : ℕ) (form : ImportKind) → label p i ≡ is.Import form → label p (parent p i) ≡ is.Unit
  import_parent i form e = is_unit (label p (parent p i)) (import_over (label p (parent p i)) form
      (subst (Under (label p (parent p i))) e (under_at IsImport i (λ x. x) (λ x. x) (subst IsImport (sym e) tt))))

  -- nothing but units and the program holds an import
  outside_import : (i b o : ℕ) (form : ImportKind) → label p i ≡ is.Import form → i < o → b ≤ i → o < end p b → (label p b ≡ is.Import form → ⊥) → (label p b ≡ is.Unit → ⊥) → b ≡ 0
  outside_import i b o form e lo le hi no1 no2 = by_side (split b i le)
    where
      split : (b i : ℕ) → b ≤ i → (b ≡ i) ⊎ (b < i)
      split b i le = grind arith

      split' : (b w : ℕ) → b ≤ w → (b ≡ w) ⊎ (b < w)
      split' b w le = grind arith

      by_side : (b ≡ i) ⊎ (b < i) → b ≡ 0
      by_side (inl q) = absurd (no1 (ap (label p) q ∙ e))
      by_side (inr lt) = let z = h.tree.inner b i lt (omega arith) in let w = import_parent i form e in
          elim (split' b (parent p i) z) [
            | inl q ↦ absurd (no2 (ap (label p) q ∙ w))
            | inr l ↦ (let t = there IsImport i (λ x. x) (subst IsImport (sym e) tt) in let v = h.tree.up i t (omega arith) in no_unit_inside b (parent p i) w l (omega arith))
          ]

  -- ---- the parts

  skip_header : HeaderLabel is.Skip → ⊥
  skip_header (inl x) = x
  skip_header (inr x) = x

  program_header : HeaderLabel is.Program → ⊥
  program_header (inl x) = x
  program_header (inr x) = x

  header_label : (c n : ℕ) → NamesHeader p c n → HeaderLabel (label p n)
  header_label c n (inl w) = inl w.names
  header_label c n (inr w) = inr w.names

  header_parent : (c n : ℕ) → NamesHeader p c n → parent p n ≡ c
  header_parent c n (inl w) = w.inside
  header_parent c n (inr w) = w.inside

  header_known : (c n : ℕ) → NamesHeader p c n → IsTypeLabel (label p (parent p n)) × SeeksType (sought_at p n)
  header_known c n w = let l = header_label c n w in header_facts (label p (parent p n)) (label p n) l (under_at HeaderLabel n skip_header program_header l)

  header_type : (c n : ℕ) → NamesHeader p c n → IsType p c
  header_type c n w = subst (λ c. role_at p c ≡ role.Type) (header_parent c n w) (type_label (label p (parent p n)) (header_known c n w).0)

  starts_named : (n : ℕ) (l : Label) → NamesTypeFirst l → StartsAt p n l → HasTypeName p n
  starts_named n _ NamesTypeFirst.type_use w = w
  starts_named n _ NamesTypeFirst.created w = w
  starts_named n _ NamesTypeFirst.array w = w
  starts_named n _ NamesTypeFirst.this w = w
  starts_named n _ NamesTypeFirst.import w = w

  skip_named : NamesTypeFirst is.Skip → ⊥
  skip_named w = elim w [ ]

  program_named : NamesTypeFirst is.Program → ⊥
  program_named w = elim w [ ]

  has_name : (n : ℕ) → NamesTypeFirst (label p n) → HasTypeName p n
  has_name n w = starts_named n (label p n) w (starts_at NamesTypeFirst n skip_named program_named w)

  first_name' : (n : ℕ) → NamesTypeFirst (label p n) → SeeksType (sought_at p (n + 1))
  first_name' n w = type_name_seeks (label p (n + 1)) (has_name n w).named

  sought_name : (n : ℕ) (k : NameKind) → (sought_at p n ≡ sought.Simple k) ⊎ (sought_at p n ≡ sought.Qualified k) → IsNameLabel (label p n)
  sought_name n k e = name_label (label p n) (sought_at p n) refl k e

  -- the label of a name, with what begins below it
  name_starts : (n : ℕ) → IsNameLabel (label p n) → StartsAt p n (label p n)
  name_starts n k = starts_at IsNameLabel n (λ x. x) (λ x. x) k

  simple_ends : (n : ℕ) (k : NameKind) (l : Label) → IsNameLabel l → sought_by l ≡ sought.Simple k → StartsAt p n l → end p n ≡ n + 1
  simple_ends n k (is.Name j a false) h' e w = w
  simple_ends n k (is.Name kind.Variable a true) h' e w = absurd (cc)
  simple_ends n k (is.Name kind.Type a true) h' e w = absurd (cc)
  simple_ends n k (is.Name kind.PackageOrType a true) h' e w = absurd (cc)
  simple_ends n k (is.Name kind.Ambiguous a true) h' e w = absurd (cc)
  simple_ends n k (is.Name kind.Package a true) h' e w = absurd (cc)
  simple_ends n k _ h' e w = absurd h'

  simple_end : (n : ℕ) (k : NameKind) → sought_at p n ≡ sought.Simple k → end p n ≡ n + 1
  simple_end n k e = let i = sought_name n k (inl e) in simple_ends n k (label p n) i e (name_starts n i)

  simple_leaf' : (n : ℕ) (k : NameKind) → sought_at p n ≡ sought.Simple k → parent p (n + 1) ≡ n → ⊥
  simple_leaf' n k e q = let z = child_held n (n + 1) q (omega arith) in let y = simple_end n k e in absurd (omega arith)

  -- the qualifier of a name of this kind
  qualified_parts : (n : ℕ) (k : NameKind) (l : Label) → IsNameLabel l → sought_by l ≡ sought.Qualified k → StartsAt p n l → HasQualifier p n × IsQualifierOf (left_kind k) (label p (n + 1))
  qualified_parts n k (is.Name kind.Variable a true) h' e w = let x : kind.Variable ≡ k = cc in (w.0, subst (λ k. IsQualifierOf (left_kind k) (label p (n + 1))) x w.1)
  qualified_parts n k (is.Name kind.Type a true) h' e w = let x : kind.Type ≡ k = cc in (w.0, subst (λ k. IsQualifierOf (left_kind k) (label p (n + 1))) x w.1)
  qualified_parts n k (is.Name kind.PackageOrType a true) h' e w = let x : kind.PackageOrType ≡ k = cc in (w.0, subst (λ k. IsQualifierOf (left_kind k) (label p (n + 1))) x w.1)
  qualified_parts n k (is.Name kind.Ambiguous a true) h' e w = let x : kind.Ambiguous ≡ k = cc in (w.0, subst (λ k. IsQualifierOf (left_kind k) (label p (n + 1))) x w.1)
  qualified_parts n k (is.Name kind.Package a true) h' e w = absurd (cc)
  qualified_parts n k (is.Name kind.Variable a false) h' e w = absurd (cc)
  qualified_parts n k (is.Name kind.Type a false) h' e w = absurd (cc)
  qualified_parts n k (is.Name kind.PackageOrType a false) h' e w = absurd (cc)
  qualified_parts n k (is.Name kind.Ambiguous a false) h' e w = absurd (cc)
  qualified_parts n k (is.Name kind.Package a false) h' e w = absurd (cc)
  qualified_parts n k _ h' e w = absurd h'

  parts_of : (n : ℕ) (k : NameKind) → sought_at p n ≡ sought.Qualified k → HasQualifier p n × IsQualifierOf (left_kind k) (label p (n + 1))
  parts_of n k e = let i = sought_name n k (inr e) in qualified_parts n k (label p n) i e (name_starts n i)

  -- no name that seeks has the kind of a package declaration
  kind_of : (j : NameKind) (b : Bool) → (j ≡ kind.Package → ⊥) → SeeksKind j (name_sought j b)
  kind_of kind.Variable true n = SeeksKind.qualified
  kind_of kind.Variable false n = SeeksKind.simple
  kind_of kind.Type true n = SeeksKind.qualified
  kind_of kind.Type false n = SeeksKind.simple
  kind_of kind.PackageOrType true n = SeeksKind.qualified
  kind_of kind.PackageOrType false n = SeeksKind.simple
  kind_of kind.Ambiguous true n = SeeksKind.qualified
  kind_of kind.Ambiguous false n = SeeksKind.simple
  kind_of kind.Package b n = absurd (n refl)

  qualifier_seeks : (j : NameKind) (l : Label) → (j ≡ kind.Package → ⊥) → IsQualifierOf j l → SeeksKind j (sought_by l)
  qualifier_seeks j (is.Name i place.Qualifier b) n e = subst (λ i. SeeksKind j (name_sought i b)) (sym e) (kind_of j b n)
  qualifier_seeks j _ n e = absurd e

  no_package : (k : NameKind) (l : Label) → sought_by l ≡ sought.Qualified k → IsNameLabel l → left_kind k ≡ kind.Package → ⊥
  no_package kind.Variable l e i q = cc
  no_package kind.Type l e i q = cc
  no_package kind.PackageOrType l e i q = cc
  no_package kind.Ambiguous l e i q = cc
  no_package kind.Package (is.Name kind.Variable a true) e i q = cc
  no_package kind.Package (is.Name kind.Type a true) e i q = cc
  no_package kind.Package (is.Name kind.PackageOrType a true) e i q = cc
  no_package kind.Package (is.Name kind.Ambiguous a true) e i q = cc
  no_package kind.Package (is.Name kind.Package a true) e i q = cc
  no_package kind.Package (is.Name kind.Variable a false) e i q = cc
  no_package kind.Package (is.Name kind.Type a false) e i q = cc
  no_package kind.Package (is.Name kind.PackageOrType a false) e i q = cc
  no_package kind.Package (is.Name kind.Ambiguous a false) e i q = cc
  no_package kind.Package (is.Name kind.Package a false) e i q = cc
  no_package kind.Package _ e i q = i

  qualifier' : (n : ℕ) (k : NameKind) → sought_at p n ≡ sought.Qualified k → SeeksKind (left_kind k) (sought_at p (n + 1))
  qualifier' n k e = qualifier_seeks (left_kind k) (label p (n + 1)) (no_package k (label p n) e (sought_name n k (inr e))) (parts_of n k e).1

  import_name' : (i : ℕ) (form : ImportKind) → label p i ≡ is.Import form → i + 1 < end p i
  import_name' i form e = child_held i (i + 1) (has_name i (subst NamesTypeFirst (sym e) NamesTypeFirst.import)).inside (omega arith)

  type_row : (k : ℕ) → IsType p k → IsTypeLabel (label p k)
  type_row k e = label_type (label p k) e

  no_type_name : (l : Label) → IsTypeLabel l → IsNameLabel l → ⊥
  no_type_name (is.Class m b) x y = y
  no_type_name (is.Interface m b) x y = y
  no_type_name _ x y = x

  type_positive : (k : ℕ) → IsType p k → 0 < k
  type_positive k e = behind IsTypeLabel k (λ x. x) (type_row k e)

  imports_apart' : (i o k : ℕ) (form : ImportKind) → label p i ≡ is.Import form → i < o → o < end p i → InTopLevel p k o → ⊥
  imports_apart' i o k form e lo hi w = by_side (split k i)
    where
      split : (k i : ℕ) → (k ≤ i) ⊎ (i < k)
      split k i = grind arith

      no_import : IsTypeLabel (label p k) → label p k ≡ is.Import form → ⊥
      no_import x q = subst IsTypeLabel q x

      no_unit : IsTypeLabel (label p k) → label p k ≡ is.Unit → ⊥
      no_unit x q = subst IsTypeLabel q x

      by_side : (k ≤ i) ⊎ (i < k) → ⊥
      by_side (inl le) = let x = type_row k w.top.type in let y = type_positive k w.top.type in
          let z = outside_import i k o form e lo le w.before (no_import x) (no_unit x) in absurd (omega arith)
      by_side (inr lt) = let f = w.from in no_type_name (label p k) (type_row k w.top.type) (inside_import i form e k lt (omega arith))

  import_outside' : (i o e : ℕ) (form : ImportKind) → label p i ≡ is.Import form → i < o → o < end p i → InBody p e o → ⊥
  import_outside' i o e form q lo hi w = by_side (split w.body i)
    where
      split : (k i : ℕ) → (k ≤ i) ⊎ (i < k)
      split k i = grind arith

      no_import : label p w.body ≡ is.Import form → ⊥
      no_import x = let y = sym w.of_type.body ∙ x in cc

      no_unit : label p w.body ≡ is.Unit → ⊥
      no_unit x = let y = sym w.of_type.body ∙ x in cc

      no_root : w.body ≡ 0 → ⊥
      no_root z = let y = sym w.of_type.body ∙ ap (label p) z ∙ h.program in cc

      by_side : (w.body ≤ i) ⊎ (i < w.body) → ⊥
      by_side (inl le) = no_root (outside_import i w.body o form q lo le w.before no_import no_unit)
      by_side (inr lt) = let f = w.after in subst IsNameLabel w.of_type.body (inside_import i form q w.body lt (omega arith))

  -- ---- names of types

  record IsLink (n m : ℕ) : Type 0 where
    ends : end p m ≡ end p n
    seeks : SeeksType (sought_at p m)

  left_seeks : (k : NameKind) (s : Sought) → SeeksType (sought.Qualified k) → SeeksKind (left_kind k) s → SeeksType s
  left_seeks kind.Type _ w SeeksKind.simple = tt
  left_seeks kind.Type _ w SeeksKind.qualified = tt
  left_seeks kind.PackageOrType _ w SeeksKind.simple = tt
  left_seeks kind.PackageOrType _ w SeeksKind.qualified = tt
  left_seeks kind.Variable _ w v = absurd w
  left_seeks kind.Ambiguous _ w v = absurd w
  left_seeks kind.Package _ w v = absurd w

  equal_or : (a b : ℕ) → b ≤ a → (a ≡ b) ⊎ (b < a)
  equal_or a b le = grind arith

  -- a row right below an identifier of a type's name is the next one
  link_below : (n v m : ℕ) (s : Sought) → sought_at p v ≡ s → SeeksType s → end p v ≡ end p n → parent p m ≡ v → v < m → IsLink n m
  link_below n v m (sought.Simple k) e w q pa lt = let z = child_held v m pa lt in let y = simple_end v k e in absurd (omega arith)
  link_below n v m (sought.Qualified k) e w q pa lt = elim (equal_or m (v + 1) (omega arith)) [
    | inl same ↦ subst (IsLink n) (sym same) (record { ends = (parts_of v k e).0.whole ∙ q; seeks = left_seeks k (sought_at p (v + 1)) w (qualifier' v k e) })
    | inr more ↦ (let held = child_held v m pa lt in let whole = (parts_of v k e).0.whole in let z = h.tree.inner (v + 1) m more (omega arith) in absurd (omega arith))
  ]
  link_below n v m _ e w q pa lt = absurd w

  link_here : (n m : ℕ) → n < m → m < end p n → ((v : ℕ) → v < m → n ≤ v → v < end p n → IsLink n v) → IsLink n m
  link_here n m lo hi before =
      let l = inside_there n m lo hi in let up = h.tree.up m l (omega arith) in let z = h.tree.inner n m lo hi in
      let w = before (parent p m) up z (omega arith) in
      link_below n (parent p m) m (sought_at p (parent p m)) refl w.seeks w.ends refl up
    where
      inside_there : (n m : ℕ) → n < m → m < end p n → m < length p
      inside_there n m lo hi = elim (side n) [ inl x ↦ (let z = h.tree.last n x in omega arith) | inr g ↦ (let z = ap (λ r. r.end) (past n g) in absurd (omega arith)) ]

  links : (n : ℕ) → SeeksType (sought_at p n) → (j m : ℕ) → m ≤ j → n ≤ m → m < end p n → IsLink n m
  links n seeks zero m le lo hi = elim (equal_or m n lo) [ inl q ↦ subst (IsLink n) (sym q) (record { ends = refl; seeks = seeks }) | inr g ↦ absurd (omega arith) ]
  links n seeks (suc j) m le lo hi = elim (equal_or m n lo) [
    | inl q ↦ subst (IsLink n) (sym q) (record { ends = refl; seeks = seeks })
    | inr g ↦ link_here n m g hi (λ v lt lo' hi'. links n seeks j v (omega arith) lo' hi')
  ]

  identifier' : (n m : ℕ) → SeeksType (sought_at p n) → IsIdentifierOf p n m → SeeksType (sought_at p m)
  identifier' n m seeks i = (links n seeks m m (omega arith) i.from i.before).seeks

  first_last' : (n m : ℕ) (k : NameKind) → SeeksType (sought_at p n) → IsIdentifierOf p n m → sought_at p m ≡ sought.Simple k → end p n ≡ m + 1
  first_last' n m k seeks i e = sym (links n seeks m m (omega arith) i.from i.before).ends ∙ simple_end m k e

  -- ---- bodies

  no_name_body : (b : ℕ) → label p b ≡ is.Body → IsNameLabel (label p b) → ⊥
  no_name_body b e k = subst IsNameLabel e k

  header_place' : (c n m e : ℕ) → NamesHeader p c n → IsIdentifierOf p n m → InBody p e m → InBody p e c
  header_place' c n m e w i v = record { body = v.body; of_type = v.of_type; after = after; before = before }
    where
      parent_is : parent p n ≡ c
      parent_is = header_parent c n w

      name_at : IsNameLabel (label p n)
      name_at = seeks_name (label p n) (header_known c n w).1

      above : c < n
      above = let l = there IsNameLabel n (λ x. x) name_at in let z = h.tree.up n l (behind IsNameLabel n (λ x. x) name_at) in let y = parent_is in omega arith

      not_in_name : n ≤ v.body → ⊥
      not_in_name le = elim (equal_or v.body n le) [
        | inl q ↦ no_name_body v.body v.of_type.body (subst (λ x. IsNameLabel (label p x)) (sym q) name_at)
        | inr g ↦ no_name_body v.body v.of_type.body (inside_name n name_at v.body g (let x = v.after in let y = i.before in omega arith))
      ]

      side' : (a b : ℕ) → (a ≤ b) ⊎ (b < a)
      side' a b = grind arith

      body_first : v.body < n
      body_first = elim (side' n v.body) [ inl le ↦ absurd (not_in_name le) | inr g ↦ g ]

      not_behind : c < v.body → ⊥
      not_behind lt = let x = v.before in let y = i.from in let f = body_first in let z = h.tree.inner v.body n f (omega arith) in let q = parent_is in absurd (omega arith)

      not_here : v.body ≡ c → ⊥
      not_here q = let x = type_row c (header_type c n w) in subst IsTypeLabel (sym (ap (label p) q) ∙ v.of_type.body) x

      after : v.body < c
      after = elim (side' c v.body) [ inl le ↦ (elim (equal_or v.body c le) [ inl q ↦ absurd (not_here q) | inr g ↦ absurd (not_behind g) ]) | inr g ↦ g ]

      before : c < end p v.body
      before = let x = above in let y = i.from in let z = v.before in omega arith

  member_of_body : (c f v : ℕ) → IsType p c → parent p c ≡ v → label p v ≡ is.Body → parent p v ≡ f → IsType p f → DeclaredIn p f c
  member_of_body c f v k q e r ty = record {
    member = subst IsMemberRole (sym k) tt;
    inside = subst (λ r. BodyOf p f (holder r p c)) (sym k) (subst (BodyOf p f) (sym q) (record { type = ty; body = e; inside = r }));
  }

  body_chain' : (c e : ℕ) → IsType p c → InBody p e c → DeclaredIn p e c ⊎ ((f : ℕ) × DeclaredIn p f c × InBody p e f)
  body_chain' c e k w = by_parent (equal_or (parent p c) w.body (h.tree.inner w.body c w.after w.before))
    where
      type_there : c < length p
      type_there = there IsTypeLabel c (λ x. x) (type_row c k)

      up : parent p c < c
      up = h.tree.up c type_there (type_positive c k)

      over : IsUnitOrBody (label p (parent p c))
      over = type_over (label p (parent p c)) (label p c) (type_row c k) (h.under c (type_positive c k) type_there)

      no_root : w.body ≡ 0 → ⊥
      no_root z = let y = sym w.of_type.body ∙ ap (label p) z ∙ h.program in cc

      deeper : w.body < parent p c → label p (parent p c) ≡ is.Body → (f : ℕ) × DeclaredIn p f c × InBody p e f
      deeper lt q =
          let v = parent p c in
          let t = there IsBodyRow (parent p c) (λ x. x) (subst IsBodyRow (sym q) tt) in
          let pos = behind IsBodyRow (parent p c) (λ x. x) (subst IsBodyRow (sym q) tt) in
          let f = parent p (parent p c) in
          let ty = type_label (label p f) (body_over (label p f) (subst (Under (label p f)) q (h.under (parent p c) pos t))) in
          let x = up in let y = w.before in
          let z = h.tree.inner w.body (parent p c) lt (omega arith) in
          let u' = h.tree.up (parent p c) t pos in (
            f,
            member_of_body c f (parent p c) k refl q refl ty,
            record {
              body = w.body;
              of_type = w.of_type;
              before = omega arith;
              after = elim (equal_or f w.body z) [ inl s ↦ absurd (not_type w.body f s ty w.of_type.body) | inr g ↦ g ];
            },
          )
        where
          not_type : (b f : ℕ) → f ≡ b → IsType p f → label p b ≡ is.Body → ⊥
          not_type b f s ty q = subst IsTypeLabel (ap (label p) s ∙ q) (type_row f ty)

      by_parent : (parent p c ≡ w.body) ⊎ (w.body < parent p c) → DeclaredIn p e c ⊎ ((f : ℕ) × DeclaredIn p f c × InBody p e f)
      by_parent (inl q) = inl (member_of_body c e w.body k q w.of_type.body w.of_type.inside w.of_type.type)
      by_parent (inr lt) = elim (unit_or_body (label p (parent p c)) over) [
        | inl q ↦ (let x = up in let y = w.before in absurd (no_root (no_unit_inside w.body (parent p c) q lt (omega arith))))
        | inr q ↦ inr (deeper lt q)
      ]

  pub formed : ((c n : ℕ) → IsObject p c → NamesHeader p c n → ⊥) → IsFormed p
  formed bare = record {
    tree = h.tree;
    header = header_type;
    header_name = λ c n w. (header_known c n w).1;
    first_name = first_name';
    qualifier = qualifier';
    simple_leaf = simple_leaf';
    name_below = λ n m k e lt. name_child n m k e lt;
    import_name = import_name';
    imports_apart = imports_apart';
    import_outside = import_outside';
    identifier = identifier';
    first_last = first_last';
    header_place = header_place';
    body_chain = body_chain';
    object_bare = bare;
  }
