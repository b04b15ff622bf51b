-- What the supertypes of a program are to tell, for rows of shaped units with the prelude, under tables whose supertypes have no cycle.
use Rattle.std.specs.List.Sorted.{IsPermutation, IsNonDecreasing, IsStrictlyIncreasing}
use Rattle.std.specs.Prelude.{◌≡◌, ℕ, List, [], ◌∷◌, ◌++◌, Option, Some, None, Bool, false, ◌&&◌, ◌||◌, if◌then◌else◌, nat_eq, nat_lt, slice_index_or}
use Rattle.jr_tree.specs.Rows.{Rows}
use Rattle.jr_defs.specs.declared.referent.Element.{Element}
use Rattle.jr_defs.specs.declared.referent.RowType.{RowType}
use Rattle.jr_defs.specs.Referents.{Table}
use Rattle.jr_defs.specs.Supertypes.{Superclass, Above}
use Rattle.jr_plain.specs.Search.{Finds, Lists}
use Rattle.jr_plain.specs.Headed.{IsHeaded}
use Rattle.jr_plain.specs.Same.{same_element}
use Rattle.jr_plain.specs.Supertypes.{widens, is_null, is_reference, is_object_type}
use Rattle.jr_supers.specs.declared.subtypes.Supers as code
use Rattle.jr_supers.specs.Above.{HasNoOtherObject, AreAllAbove, is_above_in, tables}
use Rattle.jr_supers.specs.Order.{IsOrderOf}
use Rattle.jr_supers.specs.Direct.{HasSupers, SuperclassesStandFirst, object_row}

-- names in headers stand below types, that of a superclass first, and there is one Object
pub record IsWellHeaded (p : Rows) : Type 0 where
  pub headed : IsHeaded p
  pub one : HasNoOtherObject p
  pub first : SuperclassesStandFirst p

-- no type is above itself (JLS 8.1.4, 9.1.3)
abbrev pub HasNoCycle : Rows → Table → Type 0
HasNoCycle p t = (c : ℕ) → Above p t c c → ⊥

-- these are the supertypes under the table
pub record AreSupersOf (p : Rows) (t : Table) (supers : code.Supers) : Type 0 where
  pub well : IsWellHeaded p
  pub direct : HasSupers p t supers.direct.supers
  pub object : supers.direct.object ≡ object_row p
  pub superclasses : (c : ℕ) → Finds (slice_index_or supers.direct.superclasses.items c None) (Superclass p t c)
  pub order : IsOrderOf p supers.direct.supers supers.order.items
  pub above : AreAllAbove p t (tables supers.above)

-- ---- lists that rise

abbrev pub is_last : Option ℕ → ℕ → Bool
is_last None x = false
is_last (Some y) x = nat_eq y x

-- the items that differ from the one before them
abbrev pub once : Option ℕ → List ℕ → List ℕ
once before [] = []
once before (x ∷ xs) = (if is_last before x then [] else x ∷ []) ++ once (Some x) xs

-- the items in order, each once
pub record SortsOnce (all out : List ℕ) : Type 0 where
  pub sorted : List ℕ
  pub moved : IsPermutation all sorted
  pub rising : IsNonDecreasing sorted
  pub is : out ≡ once None sorted

-- Object, where it stands above
abbrev pub object_if : Rows → code.Supers → ℕ → Option ℕ → List ℕ
object_if p supers c None = []
object_if p supers c (Some o) = if is_above_in p (tables supers.above) c o then o ∷ [] else []

-- each item once, as they rise
pub record ListsOnce (all : List ℕ) (P : ℕ → Type 0) : Type 0 where
  pub rises : IsStrictlyIncreasing all
  pub has : Lists all P

-- ---- subtypes

abbrev pub is_below_plain : Element → Element → Bool
is_below_plain low high = widens low high || (is_null low && is_reference 0 high)

-- the type is a subtype of the other, where it is told whether its class is below that
abbrev pub is_subtype_where : Rows → RowType → RowType → Bool → Bool
is_subtype_where p low high above =
    if nat_eq low.dims high.dims then (same_element low.element high.element || (nat_eq low.dims 0 && is_below_plain low.element high.element)) || above
    else (if nat_lt high.dims low.dims then is_object_type p high.element else (nat_eq low.dims 0 && is_null low.element))
