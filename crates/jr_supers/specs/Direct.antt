-- The direct supertypes of types, as entries under their types (JLS 8.1.4, 8.1.5, 9.1.3).
use Rattle.std.specs.Prelude.{◌≡◌, ℕ, zero, suc, ◌+◌, ◌<◌, Bool, not, ◌&&◌, ◌||◌, replicate, slice_set, if◌then◌else◌, List, [], ◌∷◌, ◌++◌, length, Option, Some, None, nat_eq}
use Rattle.jr_tree.specs.declared.label.Label.{Label}
use Rattle.jr_tree.specs.declared.label.Label.TheVariants as is
use Rattle.jr_tree.specs.declared.label.NamePlace.TheVariants as place
use Rattle.jr_tree.specs.Rows.{Rows, label, parent}
use Rattle.jr_defs.specs.declared.referent.Referent.{Referent}
use Rattle.jr_defs.specs.declared.referent.Referent.TheVariants.{Declared}
use Rattle.jr_defs.specs.Referents.{Table}
use Rattle.jr_defs.specs.Supertypes.{IsSuperclassLabel, SuperAt, Super}
use Rattle.jr_plain.specs.Search.{first_below, Lists}
use Rattle.jr_plain.specs.Declarations.{is_class, is_object}
use Rattle.jr_plain.specs.Supertypes.{is_superclass_label}
use Rattle.jr_places.specs.declared.chains.Entry.{Entry}
use Rattle.jr_places.specs.Chains.{rows_under}
use Rattle.jr_supers.specs.declared.supers.HeaderPlace.{HeaderPlace}
use Rattle.jr_supers.specs.declared.supers.HeaderPlace.TheVariants as header

-- where a name in a header stands
abbrev pub header_place : Label → Option HeaderPlace
header_place (is.Name kind place.Superclass is_qualified) = Some header.Superclass
header_place (is.Name kind place.Superinterface is_qualified) = Some header.Superinterface
header_place _ = None

-- the class names its superclass, which stands first below it
abbrev pub names_first : Rows → ℕ → Bool
names_first p c = nat_eq (parent p (c + 1)) c && is_superclass_label (label p (c + 1))

abbrev pub has_implied : Rows → ℕ → Bool
has_implied p c = is_class p c && not (names_first p c) && not (is_object p c)

-- the class Object
abbrev pub object_row : Rows → Option ℕ
object_row p = first_below (length p) (λ n. is_object p n)

abbrev pub super_entry : ℕ → ℕ → Entry
super_entry c s = record { first = c; second = 0; row = s }

abbrev pub implied_entry : ℕ → Option ℕ → Option Entry
implied_entry c None = None
implied_entry c (Some s) = Some (super_entry c s)

abbrev pub declared_entry : ℕ → Referent → Option Entry
declared_entry c (Declared s level) = Some (super_entry c s)
declared_entry c _ = None

abbrev pub named_entry : ℕ → Referent → Option HeaderPlace → Option Entry
named_entry c a None = None
named_entry c a (Some at) = declared_entry c a

-- what the row n adds to the supertypes: Object for a class that names none, or what a name in a header refers to
abbrev pub super_at : Rows → Table → Option ℕ → ℕ → Option Entry
super_at p t object n = if has_implied p n then implied_entry n object else named_entry (parent p n) (t n) (header_place (label p n))

abbrev pub entry_list : Option Entry → List Entry
entry_list None = []
entry_list (Some e) = e ∷ []

-- what the first n rows add
abbrev pub super_entries : Rows → Table → Option ℕ → ℕ → List Entry
super_entries p t object zero = []
super_entries p t object (suc n) = super_entries p t object n ++ entry_list (super_at p t object n)

-- the row adds a superclass
abbrev pub is_superclass_at : Rows → ℕ → Bool
is_superclass_at p n = is_class p n || is_superclass_label (label p n)

abbrev pub put_entry : Option Entry → List (Option ℕ) → List (Option ℕ)
put_entry None all = all
put_entry (Some e) all = slice_set all e.first (Some e.row)

abbrev pub with_superclass : Rows → ℕ → Option Entry → List (Option ℕ) → List (Option ℕ)
with_superclass p n e all = if is_superclass_at p n then put_entry e all else all

-- the superclasses that the first n rows add
abbrev pub superclass_list : Rows → Table → Option ℕ → ℕ → List (Option ℕ)
superclass_list p t object zero = replicate (length p) None
superclass_list p t object (suc n) = with_superclass p n (super_at p t object n) (superclass_list p t object n)

-- the supertypes of a type under its key, from the last back
abbrev pub supers_in : List Entry → ℕ → List ℕ
supers_in supers c = rows_under supers c 0 (length supers)

-- these are the direct supertypes of c at the places below n, from the last back
abbrev pub FallsFrom : Rows → Table → ℕ → ℕ → List ℕ → Type 0
FallsFrom p t c n [] = (m s : ℕ) → m < n → SuperAt p t c m s → ⊥
FallsFrom p t c n (s ∷ more) = (m : ℕ) × (m < n) × SuperAt p t c m s × ((k r : ℕ) → m < k → k < n → SuperAt p t c k r → ⊥) × FallsFrom p t c m more

-- the direct supertypes of each type are under its key, in the order of their places
pub record HasSupers (p : Rows) (t : Table) (supers : List Entry) : Type 0 where
  pub each : (c : ℕ) → Lists (supers_in supers c) (Super p t c)
  pub falls : (c : ℕ) → FallsFrom p t c (length p) (supers_in supers c)

-- the name of a superclass stands first below its class
abbrev pub SuperclassesStandFirst : Rows → Type 0
SuperclassesStandFirst p = (n : ℕ) → IsSuperclassLabel (label p n) → n ≡ parent p n + 1
