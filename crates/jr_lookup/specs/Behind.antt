-- What stands before a dot, and what is to be known at a place where something is looked up (JLS 6.5, 15.11, 15.12).
use Rattle.std.specs.Prelude.{◌≡◌, if◌then◌else◌, ℕ, ◌+◌, ◌<◌, ◌^◌, ◌-◌, ◌≤◌, Bool, true, false, ◌&&◌, ◌++◌, List, length, codes, Option, Some, None, option_map, nat_lt, bytes_eq, slice_index_or}
use Rattle.jr_base.specs.declared.text.Text.{Text}
use Rattle.jr_tree.specs.declared.label.Label.{Label}
use Rattle.jr_tree.specs.declared.label.Label.TheVariants as is
use Rattle.jr_tree.specs.declared.label.ReceiverKind.TheVariants as on
use Rattle.jr_tree.specs.declared.label.NameKind.{NameKind}
use Rattle.jr_tree.specs.declared.label.NameKind.TheVariants as names
use Rattle.jr_tree.specs.Rows.{Rows, label, parent}
use Rattle.jr_defs.specs.declared.referent.Element.{Element}
use Rattle.jr_defs.specs.declared.referent.Element.TheVariants as element
use Rattle.jr_defs.specs.declared.referent.RowType.{RowType}
use Rattle.jr_defs.specs.declared.referent.Referent.{Referent}
use Rattle.jr_defs.specs.declared.referent.Referent.TheVariants.{Unbound, ArrayLength, Package, Declared}
use Rattle.jr_defs.specs.Referents.{Table, entries}
use Rattle.jr_defs.specs.Declarations.{IsType}
use Rattle.jr_defs.specs.Types.{class_type}
use Rattle.jr_defs.specs.Constants.{HasConstantForm}
use Rattle.jr_defs.specs.Typing.{TypeOf}
use Rattle.jr_plain.specs.Search.{Finds}
use Rattle.jr_plain.specs.Lookup.{may_be_package}
use Rattle.jr_plain.specs.Overloads.{Types, argument_types}
use Rattle.jr_plain.specs.Types.{referred_type}
use Rattle.jr_places.specs.declared.places.Places.{Places}
use Rattle.jr_places.specs.Packages.{IsSpelled}
use Rattle.jr_lookup.specs.declared.qualified.Left.{Left}
use Rattle.jr_lookup.specs.declared.qualified.Left.TheVariants as left
use Rattle.jr_lookup.specs.declared.qualified.Receiver.{Receiver}
use Rattle.jr_lookup.specs.declared.simple.Sight.{Sight}
use Rattle.jr_lookup.specs.Answers.{CanChoose}
use Rattle.jr_lookup.specs.Locals.{AreLocalsPlaced}
use Rattle.jr_lookup.specs.Sights.{IsSight}

-- the type that a list has for a row
abbrev pub type_in : List (Option RowType) → ℕ → Option RowType
type_in types n = slice_index_or types n None

-- ---- what stands before a dot

-- a name, or a constructor, whose name is that of its class
abbrev pub IsTypeLabel : Label → Type 0
IsTypeLabel (is.Name kind place is_qualified) = Unit {0}
IsTypeLabel (is.Constructor modifiers) = Unit {0}
IsTypeLabel _ = ⊥

-- names alone refer to packages, and names and constructors alone to types
pub record RefersByNames (p : Rows) (t : Table) : Type 0 where
  pub type : (n d : ℕ) (level : Option ℕ) → t n ≡ Declared d level → IsType p d → IsTypeLabel (label p n)
  pub packages : (n : ℕ) → t n ≡ Package → IsTypeLabel (label p n)

-- what the row n is before a dot: a package, by the number of its name if one that begins so has units, a type, or neither
pub data IsLeftAt (p : Rows) (t : Table) (places : Places) (n : ℕ) : Left → Type 0 where
  of_package : {number : Option ℕ} → t n ≡ Package → Finds number (IsSpelled p places.packages n) → IsLeftAt p t places n (left.Package number)
  of_type : {c : ℕ} → referred_type p (t n) ≡ Some c → IsLeftAt p t places n (left.OfType c)
  value : {a : RowType} → (t n ≡ Package → ⊥) → referred_type p (t n) ≡ None → IsLeftAt p t places n (left.Value a)
  nothing : (t n ≡ Package → ⊥) → referred_type p (t n) ≡ None → IsLeftAt p t places n left.Nothing

-- an expression of a type that is known, or nothing
abbrev pub left_by : Option RowType → Left
left_by (Some a) = left.Value a
left_by None = left.Nothing

abbrev pub value_of : Left → Option RowType
value_of (left.Value a) = Some a
value_of _ = None

-- what stands before the dot of the row o, in its first child
pub data IsLeftOf (p : Rows) (t : Table) (places : Places) (o : ℕ) : Left → Type 0 where
  child : {l : Left} → parent p (o + 1) ≡ o → IsLeftAt p t places (o + 1) l → IsLeftOf p t places o l
  none : (parent p (o + 1) ≡ o → ⊥) → IsLeftOf p t places o left.Nothing

-- it is an expression of this type, or none
pub record HasValue (p : Rows) (t : Table) (K : ℕ → Type 0) (o : ℕ) (l : Left) : Type 0 where
  pub typed : parent p (o + 1) ≡ o → Finds (value_of l) (λ a. TypeOf p t K (o + 1) a)

-- a name behind a dot of which an expression may be the left part
abbrev pub NeedsValue : NameKind → Type 0
NeedsValue names.Variable = Unit {0}
NeedsValue names.Ambiguous = Unit {0}
NeedsValue _ = ⊥

abbrev pub receiver_with : Option RowType → ℕ → Receiver
receiver_with a c = record { class = c; ty = a }

-- an expression of the class
abbrev pub object_receiver : ℕ → Receiver
object_receiver c = receiver_with (Some (class_type c)) c

abbrev pub class_in : Element → Option ℕ
class_in (element.Class c) = Some c
class_in _ = None

-- the class whose members an expression of the type has; an array has those of Object (JLS 10.7)
abbrev pub receiver_by : Option ℕ → RowType → Option Receiver
receiver_by object a = if nat_lt 0 a.dims then option_map object_receiver object else option_map (receiver_with (Some a)) (class_in a.element)

abbrev pub receiver_of : Option ℕ → Left → Option Receiver
receiver_of object (left.OfType c) = Some (receiver_with None c)
receiver_of object (left.Value a) = receiver_by object a
receiver_of object _ = None

-- the length of an array, by this name (JLS 10.7)
abbrev pub length_by : RowType → Text → Referent
length_by a x = if nat_lt 0 a.dims && bytes_eq x (codes "length") then ArrayLength else Unbound

abbrev pub length_of : Left → Text → Referent
length_of (left.Value a) x = length_by a x
length_of _ x = Unbound

abbrev pub length_or_unbound : Left → NameKind → Text → Referent
length_or_unbound l names.Variable x = length_of l x
length_or_unbound l names.Ambiguous x = length_of l x
length_or_unbound l _ x = Unbound

-- what a name behind a dot is where no declaration is found
abbrev pub otherwise_by : Left → NameKind → Text → Referent
otherwise_by (left.Package number) k x = if may_be_package k then Package else Unbound
otherwise_by l k x = length_or_unbound l k x

-- ---- arguments

-- the arguments of a call begin behind its first child
abbrev pub begins_behind : Label → Bool
begins_behind (is.Call on.Expression) = true
begins_behind (is.Call on.Name) = true
begins_behind is.New = true
begins_behind _ = false

-- the types so far, and that of what follows from the child on, are those from the first argument on
pub record IsArguing (p : Rows) (type_of : Types) (o first turn child : ℕ) (all : List RowType) : Type 0 where
  pub behind : o < child
  pub far : turn ≤ child
  pub rest : option_map (λ more. all ++ more) (argument_types p type_of o (length p - turn) child) ≡ argument_types p type_of o (length p) first

-- ---- places

-- what lookup reads at a place and behind it is as the table says, and the types of what stands behind it are known
pub record CanLook (t : Table) (sight : Sight) (types : List (Option RowType)) (place : ℕ) : Type 0 where
  pub sight_is : IsSight t sight
  pub placed : AreLocalsPlaced sight.world.under.rows.now
  pub can : CanChoose t sight.world
  pub refers : RefersByNames sight.world.under.rows.now t
  pub few : length sight.world.under.rows.now + 3 < 2 ^ 32
  pub inside : place < length sight.world.under.rows.now
  pub seen : (n : ℕ) → place < n → entries sight.world.under.table.now n ≡ t n
  pub typed : (n : ℕ) → place < n → Finds (type_in types n) (λ a. TypeOf sight.world.under.rows.now t (HasConstantForm sight.world.under.rows.now t) n a)
