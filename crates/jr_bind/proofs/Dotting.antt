-- What stands before the dot of a name, where the type of the row there is known.
use Rattle.std.proofs.Common.{◌≡◌, refl, ℕ, zero, suc, ◌+◌, length, Option, Some, None, true}
use Rattle.std.proofs.lemmas.Bool.{false≢true}
use Rattle.jr_tree.specs.declared.label.Label.{Label}
use Rattle.jr_tree.specs.declared.label.Label.TheVariants as is
use Rattle.jr_tree.specs.declared.label.Sought.{Sought}
use Rattle.jr_tree.specs.declared.label.Sought.TheVariants as sought
use Rattle.jr_tree.specs.declared.label.NameKind.{NameKind}
use Rattle.jr_tree.specs.declared.label.NameKind.TheVariants as kind
use Rattle.jr_tree.specs.Rows.{Rows, label, parent}
use Rattle.jr_defs.specs.declared.referent.Referent.TheVariants.{Package}
use Rattle.jr_defs.specs.declared.referent.RowType.{RowType}
use Rattle.jr_defs.specs.Referents.{Table}
use Rattle.jr_defs.specs.Formed.{IsNameLabel}
use Rattle.jr_defs.specs.Typing.{TypeOf}
use Rattle.jr_plain.specs.Conversions.{Constants}
use Rattle.jr_plain.specs.Overloads.{Types}
use Rattle.jr_plain.specs.Search.{Finds}
use Rattle.jr_plain.specs.Types.{referred_type}
use Rattle.jr_plain.specs.Typing.{typed_by, typed_within, expression_types}
use Rattle.jr_places.specs.declared.places.Places.{Places}
use Rattle.jr_lookup.specs.declared.qualified.Left.{Left}
use Rattle.jr_lookup.specs.Behind.{left_by, RefersByNames, IsLeftAt, IsLeftOf, HasValue}
use Rattle.jr_lookup.specs.Calls.{NeedsTypes}
use Rattle.jr_lookup.proofs.Dotted.{no_value_of_package, no_value_of_type, value_left}
use Rattle.jr_bind.specs.Late.{seeks_type}
use Rattle.jr_bind.specs.Before.{with_type, NeedsBefore, NeedsBehind}

module _ (p : Rows) (t : Table) (places : Places) (o : ℕ) (up : parent p (o + 1) ≡ o) (a : Option RowType) where
  rest : (a : Option RowType) → (t (o + 1) ≡ Package → ⊥) → referred_type p (t (o + 1)) ≡ None → IsLeftAt p t places (o + 1) (left_by a)
  rest (Some b) out e = IsLeftAt.value out e
  rest None out e = IsLeftAt.nothing out e

  pub left_with : (l : Left) → IsLeftOf p t places o l → IsLeftOf p t places o (with_type l a)
  left_with _ (IsLeftOf.child u (IsLeftAt.of_package e f)) = IsLeftOf.child u (IsLeftAt.of_package e f)
  left_with _ (IsLeftOf.child u (IsLeftAt.of_type e)) = IsLeftOf.child u (IsLeftAt.of_type e)
  left_with _ (IsLeftOf.child u (IsLeftAt.value out e)) = IsLeftOf.child u (rest a out e)
  left_with _ (IsLeftOf.child u (IsLeftAt.nothing out e)) = IsLeftOf.child u (rest a out e)
  left_with _ (IsLeftOf.none apart) = absurd (apart up)

  module _ (K : ℕ → Type 0) (refers : RefersByNames p t) (typed : Finds a (λ b. TypeOf p t K (o + 1) b)) where
    pub value_with : (l : Left) → IsLeftOf p t places o l → HasValue p t K o (with_type l a)
    value_with _ (IsLeftOf.child u (IsLeftAt.of_package {number = number} e f)) = record { typed = λ up. no_value_of_package p t K refers (o + 1) (t (o + 1)) refl number e }
    value_with _ (IsLeftOf.child u (IsLeftAt.of_type {c = c} e)) = record { typed = λ up. no_value_of_type p t K refers (o + 1) (t (o + 1)) refl c (referred_type p (t (o + 1))) refl e }
    value_with _ (IsLeftOf.child u (IsLeftAt.value out e)) = record { typed = λ up. value_left p t K (o + 1) a typed }
    value_with _ (IsLeftOf.child u (IsLeftAt.nothing out e)) = record { typed = λ up. value_left p t K (o + 1) a typed }
    value_with _ (IsLeftOf.none apart) = absurd (apart up)

pub value_none : (p : Rows) (t : Table) (K : ℕ → Type 0) (o : ℕ) (l : Left) → (parent p (o + 1) ≡ o → ⊥) → HasValue p t K o l
value_none p t K o l apart = record { typed = λ up. absurd (apart up) }

-- what is no name behind a dot asks for the types of all that stands behind it
pub behind_of : (s : Sought) → ((k : NameKind) → s ≡ sought.Qualified k → ⊥) → NeedsTypes s → NeedsBehind s
behind_of (sought.Qualified k) apart h = absurd (apart k refl)
behind_of _ apart h = h

-- the type of a name reads no constants
named_by : (p : Rows) (t : Table) (c d : Constants) (f g : Types) (n : ℕ) (l : Label) → IsNameLabel l → typed_by p t c f n l ≡ typed_by p t d g n l
named_by p t c d f g n (is.Name kind place is_qualified) h = refl
named_by p t c d f g n _ h = absurd h

named_within : (p : Rows) (t : Table) (c d : Constants) (rounds n : ℕ) → IsNameLabel (label p n) → typed_within p t c rounds n ≡ typed_within p t d rounds n
named_within p t c d zero n h = refl
named_within p t c d (suc rounds) n h = named_by p t c d (typed_within p t c rounds) (typed_within p t d rounds) n (label p n) h

pub name_typed : (p : Rows) (t : Table) (c d : Constants) (n : ℕ) → IsNameLabel (label p n) → expression_types p t c n ≡ expression_types p t d n
name_typed p t c d n h = named_within p t c d (length p) n h

-- the name of a type asks for no types of expressions
pub type_needs : (s : Sought) → seeks_type s ≡ true → (NeedsBefore s → ⊥) × (NeedsBehind s → ⊥)
type_needs (sought.Simple k) e = (λ h. h, λ h. h)
type_needs (sought.Qualified kind.Type) e = (λ h. h, λ h. h)
type_needs (sought.Qualified kind.PackageOrType) e = (λ h. h, λ h. h)
type_needs (sought.Qualified kind.Variable) e = absurd (false≢true e)
type_needs (sought.Qualified kind.Ambiguous) e = absurd (false≢true e)
type_needs (sought.Qualified kind.Package) e = absurd (false≢true e)
type_needs _ e = absurd (false≢true e)
