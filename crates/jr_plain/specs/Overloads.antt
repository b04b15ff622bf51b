-- Which method or constructor a call chooses, computed (JLS 15.12.2, 8.4.8.4, 8.4.5).
use Rattle.std.specs.Prelude.{ℕ, zero, suc, Bool, false, not, ◌&&◌, ◌||◌, if◌then◌else◌, List, [], length, filter, Option, Some, None, nat_eq, nat_lt}
use Rattle.std.specs.List.{list_any, list_all}
use Rattle.std.specs.Option.{option_map_or}
use Rattle.std.specs.Cmp.Lexicographic.{pointwise}
use Rattle.jr_tree.specs.Rows.{Rows, parent, end}
use Rattle.jr_defs.specs.declared.referent.RowType.{RowType}
use Rattle.jr_defs.specs.Referents.{Table}
use Rattle.jr_plain.specs.Search.{first_below, has, least}
use Rattle.jr_plain.specs.Same.{same_type}
use Rattle.jr_plain.specs.Lists.{or_else}
use Rattle.jr_plain.specs.Declarations.{types}
use Rattle.jr_plain.specs.Modifiers.{is_abstract}
use Rattle.jr_plain.specs.Types.{type_of_declared, before, parameters}
use Rattle.jr_plain.specs.Supertypes.{is_super_at, supers, is_reference_type, is_subtype}
use Rattle.jr_plain.specs.Members.{is_member}
use Rattle.jr_plain.specs.Access.{is_accessible}

-- the types of expressions, by their rows
abbrev pub Types : Type 0
Types = ℕ → Option RowType

-- the types of the arguments of the call n from its child k on, where those behind k are known
abbrev pub with_argument : Rows → Types → ℕ → ℕ → Option (List RowType) → Option (List RowType)
with_argument p type_of n k behind = if nat_eq (parent p k) n then before (type_of k) behind else Some []

-- the types of the arguments of the call n, from its child k on; there are at most so many
abbrev pub argument_types : Rows → Types → ℕ → ℕ → ℕ → Option (List RowType)
argument_types p type_of n zero k = with_argument p type_of n k None
argument_types p type_of n (suc rounds) k = let behind = argument_types p type_of n rounds (end p k) in with_argument p type_of n k behind

-- each type is a subtype of the one at its place (JLS 15.12.2.2)
abbrev pub are_subtypes : Rows → Table → List RowType → List RowType → Bool
are_subtypes p t = pointwise (is_subtype p t)

-- the method or constructor m is accessible at o, and takes arguments of these types
abbrev pub is_applicable : Rows → Table → ℕ → Option RowType → List RowType → ℕ → Bool
is_applicable p t o receiver arguments m = is_accessible p t m o receiver && option_map_or (λ all. are_subtypes p t arguments all) (parameters p t m) false

-- of some methods or constructors, what is applicable
abbrev pub applicable : Rows → Table → ℕ → Option RowType → List RowType → List ℕ → List ℕ
applicable p t o receiver arguments methods = filter (is_applicable p t o receiver arguments) methods

-- each parameter of m is of a subtype of that of k (JLS 15.12.2.5)
abbrev pub is_more_specific : Rows → Table → ℕ → ℕ → Bool
is_more_specific p t m k = option_map_or (λ first. option_map_or (λ second. are_subtypes p t first second) (parameters p t k) false) (parameters p t m) false

-- of the applicable ones, what is more specific than every other
abbrev pub most_specific : Rows → Table → List ℕ → List ℕ
most_specific p t methods = filter (λ m. list_all (λ k. is_more_specific p t m k) methods) methods

-- ---- the choice among methods of one signature

-- the one type is the other, or a reference subtype of it
abbrev pub is_result_type_fit : Rows → Table → RowType → RowType → Bool
is_result_type_fit p t a b = same_type a b || (is_reference_type a && is_reference_type b && is_subtype p t a b)

-- the result of m is that of k, or a reference subtype of it (JLS 8.4.5)
abbrev pub is_result_fit : Rows → Table → ℕ → ℕ → Bool
is_result_fit p t m k = option_map_or (λ a. option_map_or (λ b. is_result_type_fit p t a b) (type_of_declared p t k) false) (type_of_declared p t m) false

-- the direct supertype of c at n has the member d
abbrev pub is_through_at : Rows → Table → ℕ → ℕ → ℕ → ℕ → Bool
is_through_at p t c d n s = is_super_at p t c n s && is_member p t s d

-- in the order of the direct supertypes of c, the place of the first that has the member d
abbrev pub first_place : Rows → Table → ℕ → ℕ → Option ℕ
first_place p t c d = first_below (length p) (λ n. list_any (λ s. is_through_at p t c d n s) (supers p t c))

-- at the first place for both, a supertype has both and inherits d before e, by the set of types that do
abbrev pub is_earlier_within : Rows → Table → ℕ → ℕ → List ℕ → ℕ → ℕ → ℕ → Bool
is_earlier_within p t d e set c m n = nat_eq m n && list_any (λ s. (is_through_at p t c d n s && is_member p t s e) && has set s) (supers p t c)

-- c inherits d before e, where the set has types that do: superclass first, then superinterfaces as written, each in its own order
abbrev pub is_earlier_by : Rows → Table → ℕ → ℕ → List ℕ → ℕ → Bool
is_earlier_by p t d e set c =
    option_map_or (λ m. option_map_or (λ n. nat_lt m n || is_earlier_within p t d e set c m n) (first_place p t c e) false) (first_place p t c d) false

-- the types that inherit d before e
abbrev pub earlier : Rows → Table → ℕ → ℕ → List ℕ
earlier p t d e = least nat_eq (types p) (is_earlier_by p t d e)

abbrev pub is_earlier : Rows → Table → ℕ → ℕ → ℕ → Bool
is_earlier p t c d e = has (earlier p t d e) c

-- those whose result fits that of every other
abbrev pub returning : Rows → Table → List ℕ → List ℕ
returning p t methods = filter (λ m. list_all (λ k. is_result_fit p t m k) methods) methods

-- the first as c inherits them
abbrev pub firsts : Rows → Table → ℕ → List ℕ → List ℕ
firsts p t c methods = filter (λ m. list_all (λ k. nat_eq m k || is_earlier p t c m k) methods) methods

-- among abstract methods of one signature: the first whose result fits all others, else the first
abbrev pub first_returning : Rows → Table → ℕ → List ℕ → List ℕ
first_returning p t c methods = firsts p t c (or_else (returning p t methods) methods)

-- among the most specific ones, which have one signature: what is not abstract, else the first of them
abbrev pub preferred : Rows → Table → ℕ → List ℕ → List ℕ
preferred p t c methods = or_else (filter (λ m. not (is_abstract p m)) methods) (first_returning p t c methods)

-- what is left of the applicable ones in the type c: the preferred one of the most specific, or all where none is preferred
abbrev pub left_of : Rows → Table → ℕ → List ℕ → List ℕ
left_of p t c methods = or_else (preferred p t c (most_specific p t methods)) methods

-- the choice among methods or constructors of the type c, at the place o
abbrev pub choice : Rows → Table → ℕ → ℕ → Option RowType → List RowType → List ℕ → List ℕ
choice p t c o receiver arguments methods = left_of p t c (applicable p t o receiver arguments methods)

-- the most specific ones, or all where there is none
abbrev pub most_specific_or_all : Rows → Table → List ℕ → List ℕ
most_specific_or_all p t methods = or_else (most_specific p t methods) methods

-- the choice among imported static methods, none of which is abstract
abbrev pub imported_choice : Rows → Table → ℕ → List RowType → List ℕ → List ℕ
imported_choice p t o arguments methods = most_specific_or_all p t (applicable p t o None arguments methods)
