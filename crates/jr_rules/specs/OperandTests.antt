-- Rules 24, 26, 27 and 35, computed: operands, what is assigned to, casts and branches (JLS 15.14 to 15.26).
use Rattle.std.specs.Prelude.{ℕ, zero, suc, ◌+◌, Bool, true, false, not, ◌&&◌, ◌||◌, length, is_some, nat_eq}
use Rattle.jr_tree.specs.declared.label.Label.{Label}
use Rattle.jr_tree.specs.declared.label.Label.TheVariants as is
use Rattle.jr_tree.specs.Rows.{Rows, label, parent, end}
use Rattle.jr_defs.specs.declared.referent.RowType.{RowType}
use Rattle.jr_defs.specs.Referents.{Table}
use Rattle.jr_plain.specs.Declarations.{is_variable}
use Rattle.jr_plain.specs.Supertypes.{is_reference_type, is_subtype}
use Rattle.jr_plain.specs.Conversions.{Constants, is_reference_or_null, is_castable}
use Rattle.jr_plain.specs.Overloads.{Types}
use Rattle.jr_plain.specs.Typing.{first, second, third, conditional_type, is_assign}
use Rattle.jr_rules.specs.TypedTests.{type_below, declared_row, found, both_found}

abbrev pub takes_one : Label → Bool
takes_one (is.Unary op) = true
takes_one (is.PreStep op) = true
takes_one (is.PostStep op) = true
takes_one _ = false

abbrev pub takes_two : Label → Bool
takes_two (is.Binary op) = true
takes_two (is.Assign op) = not (is_assign op)
takes_two _ = false

abbrev pub is_conditional : Label → Bool
is_conditional is.Conditional = true
is_conditional _ = false

-- two types that ?: takes at its second and third place neither as references nor otherwise
abbrev pub are_no_branches : Rows → Table → Constants → ℕ → RowType → RowType → Bool
are_no_branches p t constant n a b = not (is_reference_type a && is_reference_type b)
    && not (is_some (conditional_type p t constant (end p (n + 1)) (end p (end p (n + 1))) a b))

-- an operator whose operands have types gives none for them
abbrev pub operands_do_not_fit : Rows → Table → Constants → Types → ℕ → Bool
operands_do_not_fit p t constant type_of n =
    (takes_one (label p n) && is_some (first p type_of n) && not (is_some (type_of n)))
    || ((takes_two (label p n) && is_some (first p type_of n) && is_some (second p type_of n) && not (is_some (type_of n)))
    || (is_conditional (label p n) && both_found (second p type_of n) (third p type_of n) (λ a b. are_no_branches p t constant n a b)))

abbrev pub is_index : Label → Bool
is_index is.Index = true
is_index _ = false

abbrev pub is_paren : Label → Bool
is_paren is.Paren = true
is_paren _ = false

-- the expression n denotes a variable, where it is known whether what it has in parentheses does
abbrev pub denotes_by : Rows → Table → ℕ → Bool → Bool
denotes_by p t n inner = found (declared_row (t n)) (λ d. is_variable p d) || (is_index (label p n) || (is_paren (label p n) && nat_eq (parent p (n + 1)) n && inner))

-- an expression, in at most so many parentheses, that denotes a variable
abbrev pub denotes_within : Rows → Table → ℕ → ℕ → Bool
denotes_within p t zero n = false
denotes_within p t (suc rounds) n = let inner = denotes_within p t rounds (n + 1) in denotes_by p t n inner

abbrev pub denotes_variable : Rows → Table → ℕ → Bool
denotes_variable p t n = denotes_within p t (length p) n

abbrev pub changes_first : Label → Bool
changes_first (is.Assign op) = true
changes_first (is.PreStep op) = true
changes_first (is.PostStep op) = true
changes_first _ = false

-- what is assigned to or stepped is no variable
abbrev pub is_no_variable : Rows → Table → ℕ → Bool
is_no_variable p t n = changes_first (label p (parent p n)) && nat_eq n (parent p n + 1) && not (denotes_variable p t n)

abbrev pub is_cast : Label → Bool
is_cast is.Cast = true
is_cast _ = false

abbrev pub is_test : Label → Bool
is_test is.IsA = true
is_test _ = false

-- a cast that is not allowed, or an `instanceof` of no reference or whose cast is not allowed (JLS 15.16, 15.20.2)
abbrev pub cast_is_not_allowed : Rows → Table → Types → ℕ → Bool
cast_is_not_allowed p t type_of n =
    (is_cast (label p n) && both_found (type_below p t n (n + 1)) (second p type_of n) (λ b a. not (is_castable p t a b)))
    || (is_test (label p n) && both_found (first p type_of n) (type_below p t n (end p (n + 1))) (λ a b. not (is_reference_or_null a && is_castable p t a b)))

-- two reference types of which neither is assignable to the other
abbrev pub are_unrelated : Rows → Table → RowType → RowType → Bool
are_unrelated p t a b = is_reference_type a && is_reference_type b && (not (is_subtype p t a b) && not (is_subtype p t b a))

abbrev pub branches_are_unrelated : Rows → Table → Types → ℕ → Bool
branches_are_unrelated p t type_of n = is_conditional (label p n) && both_found (second p type_of n) (third p type_of n) (λ a b. are_unrelated p t a b)
