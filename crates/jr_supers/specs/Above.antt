-- What stands above types: by first supertypes, and by further ones (JLS 4.10.2).
use Rattle.std.specs.Prelude.{◌≡◌, ◌⊎◌, ℕ, zero, suc, ◌-◌, Bool, true, false, ◌&&◌, ◌||◌, if◌then◌else◌, List, [], ◌∷◌, ◌++◌, flat_map, length, replicate, Option, Some, None, nat_eq, nat_lt, nat_le, slice_index_or, slice_set, Decides, unwrap_or}
use Rattle.std.specs.List.{list_any}
use Rattle.jr_tree.specs.Rows.{Rows}
use Rattle.jr_defs.specs.Referents.{Table}
use Rattle.jr_defs.specs.Declarations.{IsType, IsObject}
use Rattle.jr_defs.specs.Supertypes.{Super, Above}
use Rattle.jr_plain.specs.Search.{has, Reaches}
use Rattle.jr_plain.specs.Declarations.{is_interface, is_object}
use Rattle.jr_places.specs.declared.chains.Entry.{Entry}
use Rattle.jr_supers.specs.declared.above.Link.{Link}
use Rattle.jr_supers.specs.declared.above.Above as code
use Rattle.jr_supers.specs.Pairs.{has_pair, uppers, with_pairs}
use Rattle.jr_supers.specs.Found.{with_items}
use Rattle.jr_supers.specs.Direct.{supers_in}

-- the link of each type, and the pairs of a type and what stands above it by its further supertypes
pub record Tables : Type 0 where
  pub links : List (Option Link)
  pub pairs : List Entry

abbrev pub link_at : List (Option Link) → ℕ → Option Link
link_at links n = slice_index_or links n None

abbrev pub up_of : Option Link → Option ℕ
up_of None = None
up_of (Some l) = l.up

abbrev pub depth_of : Option Link → ℕ
depth_of None = 0
depth_of (Some l) = l.depth

abbrev pub branching_of : Option Link → Option ℕ
branching_of None = None
branching_of (Some l) = l.branching

-- the first supertype
abbrev pub up_at : List (Option Link) → ℕ → Option ℕ
up_at links n = up_of (link_at links n)

-- the nearest type above that has further supertypes
abbrev pub branching_from : List (Option Link) → Option ℕ → Option ℕ
branching_from links None = None
branching_from links (Some u) = branching_of (link_at links u)

abbrev pub branching_above : List (Option Link) → ℕ → Option ℕ
branching_above links n = branching_from links (up_at links n)

-- a number and those that follow it, at most so many
abbrev pub walk : (ℕ → Option ℕ) → ℕ → Option ℕ → List ℕ
walk next zero at = []
walk next (suc turns) None = []
walk next (suc turns) (Some n) = n ∷ walk next turns (next n)

-- a type, and what stands above it by its further supertypes
abbrev pub with_uppers : List Entry → ℕ → List ℕ
with_uppers pairs n = n ∷ uppers pairs n

-- types with those on the way up from one, and what stands above these by further supertypes, up to one that is there: with it all above it is there
abbrev pub climbed : List (Option Link) → List Entry → ℕ → Option ℕ → List ℕ → List ℕ
climbed links pairs zero at all = all
climbed links pairs (suc turns) None all = all
climbed links pairs (suc turns) (Some n) all = if has all n then all else climbed links pairs turns (up_at links n) (with_items all (with_uppers pairs n))

-- types with one and what stands above it, but for Object above interfaces
abbrev pub with_above : List (Option Link) → List Entry → List ℕ → ℕ → List ℕ
with_above links pairs all c = climbed links pairs (suc (depth_of (link_at links c))) (Some c) all

-- the same with each of a list
abbrev pub with_all_above : List (Option Link) → List Entry → List ℕ → List ℕ → List ℕ
with_all_above links pairs all [] = all
with_all_above links pairs all (c ∷ more) = with_all_above links pairs (with_above links pairs all c) more

-- a number that has no pair with c
abbrev pub unless_above : List Entry → ℕ → Option ℕ → Option ℕ
unless_above pairs c None = None
unless_above pairs c (Some u) = if has_pair pairs c u then None else Some u

-- the first supertype of n, unless it stands above c by further ones
abbrev pub open_up : List (Option Link) → List Entry → ℕ → ℕ → Option ℕ
open_up links pairs c n = unless_above pairs c (up_at links n)

-- a type and those above it by first supertypes, below the first that stands above it by further ones
abbrev pub open_chain : List (Option Link) → List Entry → ℕ → List ℕ
open_chain links pairs c = walk (open_up links pairs c) (suc (depth_of (link_at links c))) (Some c)

-- a type and what stands above it, but for Object above interfaces
abbrev pub at_or_above : List (Option Link) → List Entry → ℕ → List ℕ
at_or_above links pairs c = flat_map (with_uppers pairs) (open_chain links pairs c)

-- ---- queries

-- one step up, not above a depth: by the jump where that is not too far
abbrev pub jump_up : ℕ → ℕ → Link → Option Link → ℕ
jump_up depth here l None = unwrap_or l.up here
jump_up depth here l (Some far) = if nat_le depth far.depth && nat_lt far.depth l.depth then l.jump else unwrap_or l.up here

abbrev pub step_by : List (Option Link) → ℕ → ℕ → Option Link → Option ℕ
step_by links depth here None = None
step_by links depth here (Some l) = if nat_le l.depth depth then None else Some (jump_up depth here l (link_at links l.jump))

abbrev pub step_up : List (Option Link) → ℕ → ℕ → Option ℕ
step_up links depth here = step_by links depth here (link_at links here)

abbrev pub go_up : (ℕ → ℕ) → ℕ → Option ℕ → ℕ
go_up next here None = here
go_up next here (Some over) = next over

abbrev pub climb : List (Option Link) → ℕ → ℕ → ℕ → ℕ
climb links depth zero here = here
climb links depth (suc turns) here = go_up (climb links depth turns) here (step_up links depth here)

-- the type so deep above another by first supertypes
abbrev pub at_depth : List (Option Link) → ℕ → ℕ → ℕ
at_depth links c depth = climb links depth (suc (depth_of (link_at links c))) c

abbrev pub is_linked_to : List (Option Link) → ℕ → Link → ℕ → Option Link → Bool
is_linked_to links c low over None = false
is_linked_to links c low over (Some high) = nat_lt high.depth low.depth && nat_eq (at_depth links c high.depth) over

abbrev pub is_linked : List (Option Link) → ℕ → Link → ℕ → Bool
is_linked links c low over = is_linked_to links c low over (link_at links over)

abbrev pub is_branched : List (Option Link) → List Entry → Link → ℕ → Bool
is_branched links pairs low over = list_any (λ n. has_pair pairs n over) (walk (branching_above links) (suc low.depth) low.branching)

abbrev pub is_above_by : Rows → Tables → ℕ → ℕ → Option Link → Bool
is_above_by p tables c over None = false
is_above_by p tables c over (Some low) = (low.has_object && is_object p over) || is_linked tables.links c low over || is_branched tables.links tables.pairs low over

-- the type over stands strictly above c
abbrev pub is_above_in : Rows → Tables → ℕ → ℕ → Bool
is_above_in p tables c over = is_above_by p tables c over (link_at tables.links c)

-- ---- one type more

-- where the chain of a type begins to differ: as far as two equal jumps above the one over it, or at that
abbrev pub far_jump : ℕ → Link → Link → Option Link → ℕ
far_jump up over far None = up
far_jump up over far (Some farther) = if nat_eq (over.depth - far.depth) (far.depth - farther.depth) then far.jump else up

abbrev pub jump_by : List (Option Link) → ℕ → Link → Option Link → ℕ
jump_by links up over None = up
jump_by links up over (Some far) = far_jump up over far (link_at links far.jump)

abbrev pub jump_over : List (Option Link) → ℕ → Link → ℕ
jump_over links up over = jump_by links up over (link_at links over.jump)

abbrev pub top_link : ℕ → Bool → Bool → Link
top_link c branches has_object = record { depth = 0; up = None; jump = c; branching = if branches then Some c else None; has_object = has_object }

abbrev pub link_below : List (Option Link) → ℕ → Bool → Bool → ℕ → Option Link → Link
link_below links c branches has_object up None = top_link c branches has_object
link_below links c branches has_object up (Some over) =
    record { depth = suc over.depth; up = Some up; jump = jump_over links up over; branching = if branches then Some c else over.branching; has_object = has_object }

abbrev pub new_link : List (Option Link) → ℕ → Bool → Bool → Option ℕ → Link
new_link links c branches has_object None = top_link c branches has_object
new_link links c branches has_object (Some up) = link_below links c branches has_object up (link_at links up)

abbrev pub is_known : Option Link → Bool
is_known None = false
is_known (Some l) = true

-- the last item
abbrev pub last_from : Option ℕ → List ℕ → Option ℕ
last_from before [] = before
last_from before (x ∷ xs) = last_from (Some x) xs

abbrev pub known_only : List (Option Link) → Option ℕ → Option ℕ
known_only links None = None
known_only links (Some s) = if is_known (link_at links s) then Some s else None

-- the first of the supertypes, which stands last, where it is a type that is known
abbrev pub known_first : List (Option Link) → List ℕ → Option ℕ
known_first links supers = known_only links (last_from None supers)

abbrev pub item_list : Option ℕ → List ℕ
item_list None = []
item_list (Some x) = x ∷ []

abbrev pub unknown_list : List (Option Link) → Option ℕ → List ℕ
unknown_list links None = []
unknown_list links (Some s) = if is_known (link_at links s) then [] else s ∷ []

-- the others
abbrev pub further_from : List (Option Link) → Option ℕ → List ℕ → List ℕ
further_from links before [] = unknown_list links before
further_from links before (x ∷ xs) = item_list before ++ further_from links (Some x) xs

abbrev pub further : List (Option Link) → List ℕ → List ℕ
further links supers = further_from links None supers

abbrev pub object_of : Option Link → Bool
object_of None = false
object_of (Some l) = l.has_object

-- Object is one of the supertypes, or above one
abbrev pub reach_object : Rows → List (Option Link) → List ℕ → Bool
reach_object p links supers = list_any (λ s. is_object p s || object_of (link_at links s)) supers

abbrev pub is_some_item : List ℕ → Bool
is_some_item [] = false
is_some_item (x ∷ xs) = true

-- what stands above others
abbrev pub highs_of : List (Option Link) → List Entry → List ℕ → List ℕ
highs_of links pairs supers = with_all_above links pairs [] (further links supers)

-- Object stands above the type
abbrev pub is_under_object : Rows → List (Option Link) → ℕ → List ℕ → Bool
is_under_object p links c supers = is_interface p c || reach_object p links supers

abbrev pub link_for : Rows → List (Option Link) → ℕ → List ℕ → Bool → Link
link_for p links c supers branches = new_link links c branches (is_under_object p links c supers) (known_first links supers)

-- the tables with one type more, whose supertypes are these from the last back
abbrev pub with_new : Rows → List ℕ → ℕ → Tables → Tables
with_new p supers c tables = record {
  links = slice_set tables.links c (Some (link_for p tables.links c supers (is_some_item (highs_of tables.links tables.pairs supers))));
  pairs = with_pairs tables.pairs c (highs_of tables.links tables.pairs supers);
}

-- a type that is known stays as it is
abbrev pub with_unless : Rows → List ℕ → ℕ → Tables → Option Link → Tables
with_unless p supers c tables None = with_new p supers c tables
with_unless p supers c tables (Some l) = tables

abbrev pub with_type : Rows → List ℕ → ℕ → Tables → Tables
with_type p supers c tables = with_unless p supers c tables (link_at tables.links c)

-- types in an order
abbrev pub with_types : Rows → List Entry → Tables → List ℕ → Tables
with_types p supers tables [] = tables
with_types p supers tables (c ∷ more) = with_types p supers (with_type p (supers_in supers c) c tables) more

abbrev pub no_tables : Rows → Tables
no_tables p = record { links = replicate (length p) None; pairs = [] }

-- what the code has
abbrev pub tables : code.Above → Tables
tables above = record { links = above.links.items; pairs = above.pairs }

-- ---- loops

-- the way up from here ends where that from c does
pub record ClimbsTo (links : List (Option Link)) (c depth room here : ℕ) : Type 0 where
  pub rest : climb links depth room here ≡ at_depth links c depth

-- what stands above through the further supertypes from here on is what does so at all
pub record BranchesTo (links : List (Option Link)) (pairs : List Entry) (low : Link) (over room : ℕ) (here : Option ℕ) : Type 0 where
  pub rest : list_any (λ n. has_pair pairs n over) (walk (branching_above links) room here) ≡ is_branched links pairs low over

-- these with those from here on are what was there with what stands at or above c
pub record AddsTo (links : List (Option Link)) (pairs : List Entry) (c : ℕ) (before : List ℕ) (room : ℕ) (here : Option ℕ) (done : List ℕ) : Type 0 where
  pub rest : climbed links pairs room here done ≡ with_above links pairs before c

-- these and what stands at or above those from here on are what was there and what stands at or above c
pub record ListsTo (links : List (Option Link)) (pairs : List Entry) (c : ℕ) (before : List ℕ) (room : ℕ) (here : Option ℕ) (done : List ℕ) : Type 0 where
  pub rest : done ++ flat_map (with_uppers pairs) (walk (open_up links pairs c) room here) ≡ before ++ at_or_above links pairs c

-- ---- what tables are to have

abbrev pub IsKnown : List (Option Link) → ℕ → Type 0
IsKnown links c = (l : Link) × (link_at links c ≡ Some l)

-- y is c, or stands above it by first supertypes
pub data OnChain (links : List (Option Link)) : ℕ → ℕ → Type 0 where
  here : {c : ℕ} → OnChain links c c
  over : {c u y : ℕ} → up_at links c ≡ Some u → OnChain links u y → OnChain links c y

-- the type u stands right above one with the link l
pub record IsUnder (links : List (Option Link)) (l : Link) (u : ℕ) : Type 0 where
  pub over : Link
  pub known : link_at links u ≡ Some over
  pub deeper : l.depth ≡ suc over.depth

-- the link of c is right
pub record IsLinked (p : Rows) (t : Table) (tables : Tables) (c : ℕ) (l : Link) : Type 0 where
  pub first : (u : ℕ) → l.up ≡ Some u → Super p t c u × IsUnder tables.links l u
  pub top : l.up ≡ None → l.depth ≡ 0
  pub jumps : OnChain tables.links c l.jump
  pub supers : (s : ℕ) → Super p t c s → (l.up ≡ Some s) ⊎ (has_pair tables.pairs c s ≡ true)
  pub branches : l.branching ≡ (if is_some_item (uppers tables.pairs c) then Some c else branching_from tables.links l.up)
  pub object : (o : ℕ) → IsObject p o → Decides l.has_object (Above p t c o)

-- the tables tell what stands above the types that they know
pub record AreAbove (p : Rows) (t : Table) (tables : Tables) : Type 0 where
  pub each : (c : ℕ) (l : Link) → link_at tables.links c ≡ Some l → IsLinked p t tables c l
  pub sound : (c s : ℕ) → has_pair tables.pairs c s ≡ true → Reaches (Super p t) c s
  pub closed : (c r s : ℕ) → has_pair tables.pairs c r ≡ true → Super p t r s → has_pair tables.pairs c s ≡ true
  pub known : (c s : ℕ) → has_pair tables.pairs c s ≡ true → IsKnown tables.links c

-- they know all types
pub record AreAllAbove (p : Rows) (t : Table) (tables : Tables) : Type 0 where
  pub above : AreAbove p t tables
  pub all : (c : ℕ) → IsType p c → IsKnown tables.links c

-- one Object, as the prelude has it
abbrev pub HasNoOtherObject : Rows → Type 0
HasNoOtherObject p = (r s : ℕ) → IsObject p r → IsObject p s → r ≡ s
