-- Trees of names, which tell for each type the nearest one that has a list for a name.
use Rattle.std.specs.Prelude.{◌≡◌, ◌⊎◌, ℕ, zero, suc, ◌/◌, ◌%◌, ◌<◌, Bool, true, false, not, ◌&&◌, ◌||◌, List, [], ◌∷◌, ◌++◌, length, Option, Some, None, IfSome, nat_eq, slice_get, if◌then◌else◌}
use Rattle.std.specs.HashMap.{get}
use Rattle.jr_tree.specs.Rows.{Rows}
use Rattle.jr_defs.specs.Referents.{Table}
use Rattle.jr_defs.specs.Members.{CanInherit, Passes}
use Rattle.jr_plain.specs.Search.{has}
use Rattle.jr_plain.specs.Declarations.{is_interface}
use Rattle.jr_plain.specs.Packages.{is_same_package}
use Rattle.jr_places.specs.declared.chains.Entry.{Entry}
use Rattle.jr_places.specs.Names.{name_row}
use Rattle.jr_members.specs.declared.declared.MemberKind.{MemberKind}
use Rattle.jr_members.specs.declared.nearest.Lister.{Lister}
use Rattle.jr_members.specs.declared.nearest.Nearest.{Nearest}
use Rattle.jr_members.specs.declared.nearest.Node.{Node}
use Rattle.jr_members.specs.declared.nearest.Outlook.{Outlook}
use Rattle.jr_members.specs.declared.nearest.Runs.{Runs}
use Rattle.jr_members.specs.declared.named.Way.{Way}
use Rattle.jr_members.specs.Held.{IsHeldAs}
use Rattle.jr_members.specs.Each.{AreBelow}
use Rattle.jr_members.specs.Named.{IsTold, AreLists, IsNearest}

-- ---- trees

abbrev pub node_of : List Node → Option ℕ → Option Node
node_of nodes None = None
node_of nodes (Some n) = slice_get nodes n

abbrev pub is_even : ℕ → Bool
is_even bits = nat_eq (bits % 2) 0

-- the tree below a node on the side of the last bit
abbrev pub below : Node → ℕ → Option ℕ
below node bits = if is_even bits then node.even else node.odd

abbrev pub with_below : Node → ℕ → ℕ → Node
with_below node bits tree = if is_even bits then record { name = node.name; lister = node.lister; even = Some tree; odd = node.odd } else record { name = node.name; lister = node.lister; even = node.even; odd = Some tree }

abbrev pub with_lister : Node → Lister → Node
with_lister node lister = record { name = node.name; lister = lister; even = node.even; odd = node.odd }

abbrev pub leaf : ℕ → Lister → Node
leaf name lister = record { name = name; lister = lister; even = None; odd = None }

-- what the node has for the name, or what is found below it
abbrev pub found_at : (Option ℕ → Option Lister) → ℕ → ℕ → Option Node → Option Lister
found_at next name bits None = None
found_at next name bits (Some node) = if nat_eq node.name name then Some node.lister else next (below node bits)

-- what a tree has for a name, within so many levels
abbrev pub seek : List Node → ℕ → ℕ → ℕ → Option ℕ → Option Lister
seek nodes zero name bits tree = None
seek nodes (suc levels) name bits tree = found_at (seek nodes levels name (bits / 2)) name bits (node_of nodes tree)

-- the tree is there
abbrev pub IsIn : List Node → Option ℕ → Type 0
IsIn nodes tree = IfSome tree (λ n. n < length nodes)

-- what stands below each node is there
pub record IsClosed (nodes : List Node) : Type 0 where
  pub even : (n : ℕ) (node : Node) → slice_get nodes n ≡ Some node → IsIn nodes node.even
  pub odd : (n : ℕ) (node : Node) → slice_get nodes n ≡ Some node → IsIn nodes node.odd

-- what was there is there still
pub record Keeps (old new : List Node) : Type 0 where
  pub closed : IsClosed new
  pub there : (tree : Option ℕ) → IsIn old tree → IsIn new tree
  pub same : (levels name bits : ℕ) (tree : Option ℕ) → IsIn old tree → seek new levels name bits tree ≡ seek old levels name bits tree

-- the tree with the name set
pub record IsSet (levels : ℕ) (tree : Option ℕ) (bits name : ℕ) (lister : Lister) (old new : List Node) (found : ℕ) : Type 0 where
  pub there : IsIn new (Some found)
  pub hit : seek new levels name bits (Some found) ≡ Some lister
  pub others : (n x b : ℕ) → nat_eq name x ≡ false → seek new n x b (Some found) ≡ seek old n x b tree

pub record Sets (levels : ℕ) (tree : Option ℕ) (bits name : ℕ) (lister : Lister) (old new : List Node) (found : Option ℕ) : Type 0 where
  pub keeps : Keeps old new
  pub set : IfSome found (IsSet levels tree bits name lister old new)

-- ---- types

abbrev pub known_in : Nearest → ℕ → Option Outlook
known_in nearest c = get nat_eq nearest.outlooks c

-- the runs of a type with nothing above it
abbrev pub runs_at : ℕ → Runs
runs_at c = record { of_package = c; of_classes = c }

-- those of a type right below the type up, where it is told whether both are of one package
abbrev pub runs_below : Rows → ℕ → ℕ → Runs → Bool → Runs
runs_below p c up runs same = record { of_package = if same then runs.of_package else c; of_classes = if is_interface p up then c else runs.of_classes }

-- a type before names of its own, by that above it
abbrev pub outlook_below : Rows → ℕ → ℕ → Option Outlook → Option Outlook
outlook_below p c up None = None
outlook_below p c up (Some over) = Some (record { tree = over.tree; runs = runs_below p c up over.runs (is_same_package p c up) })

abbrev pub first_outlook : Rows → (ℕ → Option Outlook) → ℕ → Option ℕ → Option Outlook
first_outlook p known c None = Some (record { tree = None; runs = runs_at c })
first_outlook p known c (Some up) = outlook_below p c up (known up)

-- the way to a type that has a list
abbrev pub way_to : ℕ → Runs → Lister → Way
way_to c runs lister = record {
  from = c;
  here = lister.at;
  has_steps = not (nat_eq c lister.at);
  is_in_one_package = nat_eq runs.of_package lister.runs.of_package;
  has_interface = not (nat_eq runs.of_classes lister.runs.of_classes);
}

abbrev pub IsKnown : (ℕ → Option Outlook) → ℕ → Type 0
IsKnown known c = (o : Outlook) × (known c ≡ Some o)

pub record AreKnown (known : ℕ → Option Outlook) (runs : Runs) : Type 0 where
  pub of_package : IsKnown known runs.of_package
  pub of_classes : IsKnown known runs.of_classes

-- the nearest type with a list for x
pub record IsLister (p : Rows) (t : Table) (kind : MemberKind) (lists : List Entry) (known : ℕ → Option Outlook) (c x : ℕ) (runs : Runs) (lister : Lister) : Type 0 where
  pub at : IsKnown known lister.at
  pub runs_are : AreKnown known lister.runs
  pub near : IsNearest p t kind lists c x (way_to c runs lister)

-- where there is none, nothing has the name
abbrev pub IsSought : Rows → Table → MemberKind → List Entry → (ℕ → Option Outlook) → ℕ → ℕ → Runs → Option Lister → Type 0
IsSought p t kind lists known c x runs None = (d : ℕ) → IsHeldAs p t kind c x d → ⊥
IsSought p t kind lists known c x runs (Some lister) = IsLister p t kind lists known c x runs lister

pub record IsOutlook (p : Rows) (t : Table) (kind : MemberKind) (lists : List Entry) (levels : ℕ) (nodes : List Node) (known : ℕ → Option Outlook) (c : ℕ) (o : Outlook) : Type 0 where
  pub there : IsIn nodes o.tree
  pub runs_are : AreKnown known o.runs
  pub finds : (x : ℕ) → IsSought p t kind lists known c x o.runs (seek nodes levels x x o.tree)

-- each type that is known finds the nearest type with a list
pub record AreNearBy (p : Rows) (t : Table) (kind : MemberKind) (lists : List Entry) (levels : ℕ) (nodes : List Node) (known : ℕ → Option Outlook) : Type 0 where
  pub closed : IsClosed nodes
  pub each : (c : ℕ) (o : Outlook) → known c ≡ Some o → IsOutlook p t kind lists levels nodes known c o

abbrev pub AreNear : Rows → Table → MemberKind → List Entry → Nearest → Type 0
AreNear p t kind lists nearest = AreNearBy p t kind lists nearest.levels nearest.nodes.items (known_in nearest)

-- no type is known
pub record IsBlank (nearest : Nearest) : Type 0 where
  pub nodes : nearest.nodes.items ≡ []
  pub none : (c : ℕ) → known_in nearest c ≡ None

-- ---- one type more

abbrev pub lister_of : ℕ → Runs → Lister
lister_of c runs = record { at = c; runs = runs }

-- under the name x some row stands behind the rest, and the tree has c; or the tree has what it had
abbrev pub IsGrownAt : Rows → ℕ → Outlook → ℕ → List ℕ → List ℕ → List Node → List Node → Option ℕ → ℕ → Type 0
IsGrownAt p c start levels all rest old new tree x = ((seek new levels x x tree ≡ Some (lister_of c start.runs)) × ((e : ℕ) × (has all e ≡ true) × (name_row p e ≡ x)))
    ⊎ (((e : ℕ) → has all e ≡ true → name_row p e ≡ x → has rest e ≡ true) × (seek new levels x x tree ≡ seek old levels x x start.tree))

-- the names of all rows but the rest are set
pub record IsGrowing (p : Rows) (c : ℕ) (start : Outlook) (levels : ℕ) (all rest : List ℕ) (old new : List Node) (tree : Option ℕ) : Type 0 where
  pub keeps : Keeps old new
  pub there : IsIn new tree
  pub finds : (x : ℕ) → IsGrownAt p c start levels all rest old new tree x

pub record IsGrown (p : Rows) (c : ℕ) (start : Outlook) (levels : ℕ) (all : List ℕ) (old new : List Node) (o : Outlook) : Type 0 where
  pub runs_are : o.runs ≡ start.runs
  pub growing : IsGrowing p c start levels all [] old new o.tree

pub record Grows (p : Rows) (c : ℕ) (start : Outlook) (levels : ℕ) (all : List ℕ) (old new : List Node) (found : Option Outlook) : Type 0 where
  pub keeps : Keeps old new
  pub grown : IfSome found (IsGrown p c start levels all old new)

-- under x the type c has what it inherits from the one above it
pub record IsFromUp (p : Rows) (t : Table) (kind : MemberKind) (linked : Option ℕ) (c x : ℕ) : Type 0 where
  pub out : (d : ℕ) → IsHeldAs p t kind c x d → (u : ℕ) × (linked ≡ Some u) × IsHeldAs p t kind u x d × Passes p u d × CanInherit p c d
  pub into : (u d : ℕ) → linked ≡ Some u → IsHeldAs p t kind u x d → Passes p u d → CanInherit p c d → IsHeldAs p t kind c x d

-- c has lists for the names of these rows, and under other names what it inherits from the one above it
pub record IsListed (p : Rows) (t : Table) (kind : MemberKind) (lists : List Entry) (linked : Option ℕ) (c : ℕ) (rows : List ℕ) : Type 0 where
  pub all : AreLists p t kind lists
  pub told : (e : ℕ) → has rows e ≡ true → IsTold p t kind lists c (name_row p e)
  pub below : AreBelow (length p) rows
  pub others : (x : ℕ) → ((e : ℕ) → has rows e ≡ true → name_row p e ≡ x → ⊥) → IsFromUp p t kind linked c x
