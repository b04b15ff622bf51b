-- What tables of members by kind and name are to have, and ways up to types that have lists.
use Rattle.std.specs.Prelude.{◌≡◌, ◌⊎◌, ℕ, suc, ◌+◌, ◌≤◌, ◌<◌, Bool, true, false, not, ◌&&◌, ◌||◌, List, [], ◌∷◌, map, length, Option, Some, None, is_some}
use Rattle.jr_tree.specs.Rows.{Rows}
use Rattle.jr_defs.specs.Referents.{Table}
use Rattle.jr_defs.specs.Enclosing.{DeclaredIn}
use Rattle.jr_defs.specs.Members.{CanInherit, Passes}
use Rattle.jr_defs.specs.Modifiers.{IsPublic, IsProtected, IsPrivate, InInterface}
use Rattle.jr_defs.specs.Packages.{SamePackage}
use Rattle.jr_plain.specs.Search.{has, Lists}
use Rattle.jr_plain.specs.Declarations.{is_interface}
use Rattle.jr_plain.specs.Modifiers.{is_public, is_protected, is_private, is_in_interface}
use Rattle.jr_plain.specs.Packages.{is_same_package}
use Rattle.jr_places.specs.declared.chains.Entry.{Entry}
use Rattle.jr_places.specs.Chains.{last_under, rows_under}
use Rattle.jr_supers.specs.declared.above.Link.{Link}
use Rattle.jr_supers.specs.Above.{link_at, depth_of, up_at, OnChain}
use Rattle.jr_members.specs.declared.declared.MemberKind.{MemberKind}
use Rattle.jr_members.specs.declared.named.Way.{Way}
use Rattle.jr_members.specs.Keys.{entry_for}
use Rattle.jr_members.specs.Each.{StandOnce}
use Rattle.jr_members.specs.Held.{IsDeclaredAs, IsHeldAs}

-- ---- lists

-- the rows under a key, from the last back
abbrev pub under : List Entry → ℕ → ℕ → List ℕ
under all c x = rows_under all c x (length all)

abbrev pub has_list : List Entry → ℕ → ℕ → Bool
has_list lists c x = is_some (last_under lists c x (length lists))

abbrev pub entries_for : ℕ → ℕ → List ℕ → List Entry
entries_for c x all = map (entry_for c x) all

-- the list of c for the name has what c has under it
abbrev pub IsTold : Rows → Table → MemberKind → List Entry → ℕ → ℕ → Type 0
IsTold p t kind lists c x = (d : ℕ) → IsHeldAs p t kind c x d → has (under lists c x) d ≡ true

-- each list has the members of its type under its name, each once
pub record AreLists (p : Rows) (t : Table) (kind : MemberKind) (lists : List Entry) : Type 0 where
  pub sound : (c x d : ℕ) → has (under lists c x) d ≡ true → IsHeldAs p t kind c x d
  pub whole : (c x : ℕ) → has_list lists c x ≡ true → IsTold p t kind lists c x
  pub once : (c x : ℕ) → StandOnce (under lists c x)

-- c has a list for each name that it declares, and under other names what it inherits from its first supertype alone
pub record IsDone (p : Rows) (t : Table) (links : List (Option Link)) (kind : MemberKind) (lists : List Entry) (c : ℕ) : Type 0 where
  pub own : (x d : ℕ) → IsDeclaredAs p kind c x d → has (under lists c x) d ≡ true
  pub held : (x d : ℕ) → IsHeldAs p t kind c x d → (has (under lists c x) d ≡ true) ⊎ ((u : ℕ) × (up_at links c ≡ Some u) × IsHeldAs p t kind u x d × Passes p u d × CanInherit p c d)

-- ---- ways

abbrev pub way_from : ℕ → Way
way_from c = record { from = c; here = c; has_steps = false; is_in_one_package = true; has_interface = false }

-- one type further up, where it is told whether the last one is of the package of the first
abbrev pub next_by : Rows → Way → ℕ → Bool → Way
next_by p way up same = record {
  from = way.from;
  here = up;
  has_steps = true;
  is_in_one_package = way.is_in_one_package && same;
  has_interface = way.has_interface || is_interface p up;
}

abbrev pub next_way : Rows → Way → ℕ → Way
next_way p way up = next_by p way up (is_same_package p way.from way.here)

-- a member of the last type reaches the first, where no type between has a list of its own and it is told whether the member is of the package of the first
abbrev pub carries_by : Rows → Way → ℕ → Bool → Bool
carries_by p way d same =
    not way.has_steps || (not (is_private p d) && ((is_public p d || (is_protected p d || (way.is_in_one_package && same))) && (not way.has_interface || is_in_interface p d)))

abbrev pub carries : Rows → Way → ℕ → Bool
carries p way d = carries_by p way d (is_same_package p way.from d)

abbrev pub IsCarried : Rows → Way → ℕ → Type 0
IsCarried p way d = way.has_steps ≡ true
    → (IsPrivate p d → ⊥) × ((IsPublic p d ⊎ IsProtected p d ⊎ ((way.is_in_one_package ≡ true) × SamePackage p way.from d)) × (way.has_interface ≡ true → InInterface p d))

-- what the first type has under the name is what the way carries of the last one
pub record IsWay (p : Rows) (t : Table) (kind : MemberKind) (x : ℕ) (way : Way) : Type 0 where
  pub starts : way.has_steps ≡ false → (way.from ≡ way.here) × (way.is_in_one_package ≡ true) × (way.has_interface ≡ false)
  pub out : (d : ℕ) → IsHeldAs p t kind way.from x d → IsHeldAs p t kind way.here x d × IsCarried p way d
  pub into : (d : ℕ) → IsHeldAs p t kind way.here x d → IsCarried p way d → IsHeldAs p t kind way.from x d

-- after so many steps up
pub record IsClimbing (p : Rows) (t : Table) (links : List (Option Link)) (kind : MemberKind) (c x turn : ℕ) (way : Way) : Type 0 where
  pub is : IsWay p t kind x way
  pub from_is : way.from ≡ c
  pub on : OnChain links c way.here
  pub deep : depth_of (link_at links way.here) + turn ≤ depth_of (link_at links c)

-- at the nearest type that has a list, or at the last one
pub record IsNearest (p : Rows) (t : Table) (kind : MemberKind) (lists : List Entry) (c x : ℕ) (way : Way) : Type 0 where
  pub is : IsWay p t kind x way
  pub from_is : way.from ≡ c
  pub listed : Lists (under lists way.here x) (IsHeldAs p t kind way.here x)

-- ---- tests

-- the member d is not private, and without an access modifier it is told whether it is of the package (JLS 8.2)
abbrev pub is_open : Rows → ℕ → Bool → Bool
is_open p d same = not (is_private p d) && (is_public p d || (is_protected p d || same))
