-- Classes and interfaces, from what their functions call (JLS 8.1, 9.1).
use Rattle.std.proofs.Common.{◌≡◌, refl, sym, ◌∙◌, ap, subst, ℕ, Bool, false, List, length, reverse, flat_map, map, Option, Some, None}
use Rattle.std.proofs.lemmas.Option.{none-some}
use Rattle.std.proofs.lemmas.List.{reverse-reverse}
use Rattle.jr_base.specs.declared.ids.DeclId.{DeclId}
use Rattle.jr_base.specs.declared.ids.TypeId.{TypeId}
use Rattle.jr_tree.specs.declared.label.Label.{Label}
use Rattle.jr_tree.specs.declared.label.Label.TheVariants as is
use Rattle.jr_tree.specs.declared.label.Role.{Role}
use Rattle.jr_tree.specs.declared.label.Role.TheVariants as role
use Rattle.jr_plain.specs.Enclosing.{children}
use Rattle.jr_plain.specs.Same.{same_role}
use Rattle.jr_plain.specs.Search.{Finds}
use Rattle.jr_supers.specs.Direct.{FallsFrom}
use Rattle.jr_dispatch.specs.declared.dispatch.Found.{Found}
use Rattle.jr_dispatch.specs.Dispatching.{AreFoundIn}
use Rattle.jr_codes.specs.Facts.{Facts}
use Rattle.jr_elab.specs.Cores.{AreFaces, AreFoundAs, IsTypeWhere, face_if, field_if, found_ids, members_by, type_row}

pub type_there : (f : Facts) (P : ℕ → Type 0) (found : Option ℕ) (s : ℕ) (t : TypeId) → Finds found P → found ≡ Some s → t ≡ type_row f s → IsTypeWhere f P (Some t)
type_there f P found s t finds same named = (s, (finds s).0 same, named)

pub type_away : (f : Facts) (P : ℕ → Type 0) (found : Option ℕ) → Finds found P → found ≡ None → IsTypeWhere f P None
type_away f P found finds none = λ s holds. none-some s (sym none ∙ (finds s).1 holds)

pub faces_are : (f : Facts) (n : ℕ) (falling supers : List ℕ) (all : List TypeId) → FallsFrom f.rows f.refers n (length f.rows) falling → supers ≡ reverse falling → all ≡ flat_map (face_if f) supers → AreFaces f n all
faces_are f n falling supers all falls turned are = record {
  supers = supers;
  in_order = subst (λ xs. FallsFrom f.rows f.refers n (length f.rows) xs) (sym (ap reverse turned ∙ reverse-reverse falling)) falls;
  are = are;
}

pub found_are : (f : Facts) (n : ℕ) (edges : List Found) (all : List (DeclId × DeclId)) → AreFoundIn f.rows f.refers n edges → all ≡ map (found_ids f) edges → AreFoundAs f n all
found_are f n edges all found are = record { edges = edges; found = found; are = are }

-- what is no initializer declares the fields below it
pub other_fields : (l : Label) (f : Facts) (k : ℕ) → ((is_static : Bool) → l ≡ is.Initializer is_static → ⊥) → flat_map (field_if f) (children f.rows k) ≡ members_by l f k
other_fields (is.Initializer is_static) f k h = absurd (h is_static refl)
other_fields _ f k h = refl

pub not_field : (r : Role) → (r ≡ role.Field → ⊥) → same_role r role.Field ≡ false
not_field role.Field h = absurd (h refl)
not_field _ h = refl
