-- Rules 25, 30 and 33, computed: values and their places, void calls and arrays (JLS 5.2, 8.3.2, 10.6, 14.4, 14.8, 14.14.1, 15.10, 15.13, 15.26.1).
use Rattle.std.specs.Prelude.{ℕ, zero, suc, ◌+◌, Bool, true, false, not, ◌&&◌, ◌||◌, if◌then◌else◌, length, Option, None, option_and_then, nat_eq}
use Rattle.jr_tree.specs.declared.label.Label.{Label}
use Rattle.jr_tree.specs.declared.label.Label.TheVariants as is
use Rattle.jr_tree.specs.Rows.{Rows, label, parent, end}
use Rattle.jr_defs.specs.declared.referent.RowType.{RowType}
use Rattle.jr_defs.specs.Referents.{Table}
use Rattle.jr_plain.specs.Declarations.{is_variable}
use Rattle.jr_plain.specs.Types.{type_of_declared}
use Rattle.jr_plain.specs.Constants.{is_value}
use Rattle.jr_plain.specs.Conversions.{Constants, is_void, is_plain, is_assignable}
use Rattle.jr_plain.specs.Overloads.{Types}
use Rattle.jr_plain.specs.Typing.{first, item_type}
use Rattle.jr_rules.specs.TypedTests.{is_int_like, found, both_found}
use Rattle.jr_rules.specs.InitializingTests.{is_plain_assignment}
use Rattle.jr_rules.specs.OperandTests.{is_index}
use Rattle.jr_rules.specs.StatementTests.{is_condition}

abbrev pub is_new_array : Label → Bool
is_new_array (is.NewArray base lengths more) = true
is_new_array _ = false

abbrev pub is_list : Label → Bool
is_list is.List = true
is_list _ = false

-- the type of what the row m, of this label, holds as an initializer, where that of a list is known
abbrev pub held_by : Rows → Table → Types → ℕ → Option RowType → Label → Option RowType
held_by p t type_of m of_list is.List = option_and_then item_type of_list
held_by p t type_of m of_list (is.NewArray base lengths more) = type_of m
held_by p t type_of m of_list _ = if is_variable p m then type_of_declared p t m else None

-- the type that the initializer n stands for, in at most so many lists
abbrev pub initializer_within : Rows → Table → Types → ℕ → ℕ → Option RowType
initializer_within p t type_of zero n = None
initializer_within p t type_of (suc rounds) n = let outer = initializer_within p t type_of rounds (parent p n) in held_by p t type_of (parent p n) outer (label p (parent p n))

abbrev pub initializer_type : Rows → Table → Types → ℕ → Option RowType
initializer_type p t type_of n = initializer_within p t type_of (length p) n

-- the type of the place of the value n: on the right of a plain assignment, or as an initializer
abbrev pub place_type : Rows → Table → Types → ℕ → Option RowType
place_type p t type_of n =
    if is_plain_assignment (label p (parent p n)) && nat_eq n (end p (parent p n + 1)) then first p type_of (parent p n)
    else (if is_value (label p (parent p n)) then initializer_type p t type_of (parent p n) else None)

-- a value that is not assignable to its place
abbrev pub value_does_not_fit : Rows → Table → Constants → Types → ℕ → Bool
value_does_not_fit p t constant type_of n = both_found (place_type p t type_of n) (type_of n) (λ a b. not (is_assignable p t constant n b a))

abbrev pub drops_values : Label → Bool
drops_values is.Eval = true
drops_values is.ForExprs = true
drops_values _ = false

abbrev pub is_for : Label → Bool
is_for (is.For has_first has_condition) = true
is_for _ = false

-- the expression n stands as a statement, or in the first part or the update of a `for`
abbrev pub stands_alone : Rows → ℕ → Bool
stands_alone p n = drops_values (label p (parent p n)) || (is_for (label p (parent p n)) && not (is_condition p n))

abbrev pub is_call : Label → Bool
is_call (is.Call receiver) = true
is_call _ = false

-- a call of a void method that is used as a value
abbrev pub void_is_used : Rows → Types → ℕ → Bool
void_is_used p type_of n = is_call (label p n) && found (type_of n) (λ a. is_plain is_void a) && not (stands_alone p n)

-- an index or a length that is no int, an index of no array, and a list in a place of no array type
abbrev pub array_does_not_fit : Rows → Table → Types → ℕ → Bool
array_does_not_fit p t type_of n =
    (is_index (label p (parent p n)) && nat_eq n (end p (parent p n + 1)) && found (type_of n) (λ a. not (is_int_like a)))
    || ((is_index (label p (parent p n)) && nat_eq n (parent p n + 1) && found (type_of n) (λ a. nat_eq a.dims 0))
    || ((is_new_array (label p (parent p n)) && found (type_of n) (λ a. not (is_int_like a)))
    || (is_list (label p n) && found (initializer_type p t type_of n) (λ a. nat_eq a.dims 0))))
