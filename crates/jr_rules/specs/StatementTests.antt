-- Rules 23, 28, 29, 31 and 34, computed: thrown classes, conditions, switches, returns and jumps (JLS 8.4.6, 14.9 to 14.18, 14.20).
use Rattle.std.specs.Prelude.{ℕ, ◌+◌, Bool, true, false, not, ◌&&◌, ◌||◌, length, codes, if◌then◌else◌, Option, None, option_and_then, is_some, nat_eq, nat_lt, bytes_eq}
use Rattle.std.specs.Ordering.{int_eq}
use Rattle.jr_base.specs.declared.constant.Const.{Const}
use Rattle.jr_base.specs.declared.constant.Const.TheVariants as c
use Rattle.jr_tree.specs.declared.label.Label.{Label}
use Rattle.jr_tree.specs.declared.label.Label.TheVariants as is
use Rattle.jr_tree.specs.declared.label.NamePlace.TheVariants as place
use Rattle.jr_tree.specs.declared.label.Role.{Role}
use Rattle.jr_tree.specs.declared.label.Role.TheVariants as role
use Rattle.jr_tree.specs.Rows.{Rows, label, parent, end, role_at}
use Rattle.jr_defs.specs.declared.referent.RowType.{RowType}
use Rattle.jr_defs.specs.Referents.{Table}
use Rattle.jr_defs.specs.Types.{class_type}
use Rattle.jr_defs.specs.Operators.{assigned_to}
use Rattle.jr_plain.specs.Search.{any_below}
use Rattle.jr_plain.specs.Declarations.{is_prelude}
use Rattle.jr_plain.specs.Enclosing.{innermost}
use Rattle.jr_plain.specs.Instances.{is_member_round}
use Rattle.jr_plain.specs.Types.{type_of_declared}
use Rattle.jr_plain.specs.Supertypes.{is_subtype}
use Rattle.jr_plain.specs.Conversions.{Constants, of_two, is_boolean, plain_of, is_plain, is_assignable}
use Rattle.jr_plain.specs.Overloads.{Types}
use Rattle.jr_plain.specs.Typing.{first}
use Rattle.jr_rules.specs.Statements.{switch_of}
use Rattle.jr_rules.specs.TypedTests.{is_int_like, declared_row, found, both_found}

-- ---- thrown classes

-- Throwable or below, or the type of null (JLS 11.1.1, 14.18)
abbrev pub is_throwable : Rows → Table → RowType → Bool
is_throwable p t a = any_below (length p) (λ c. is_prelude p (codes "Throwable") c && is_subtype p t a (class_type c))

abbrev pub may_not_throw : Rows → Table → Option RowType → Bool
may_not_throw p t type = found type (λ a. not (is_throwable p t a))

abbrev pub is_throw : Label → Bool
is_throw is.Throw = true
is_throw _ = false

abbrev pub is_catch : Label → Bool
is_catch is.Catch = true
is_catch _ = false

abbrev pub is_method_or_constructor : Role → Bool
is_method_or_constructor role.Method = true
is_method_or_constructor role.Constructor = true
is_method_or_constructor _ = false

abbrev pub is_other_name : Label → Bool
is_other_name (is.Name kind place.Other is_qualified) = true
is_other_name _ = false

-- a thrown value, the parameter of a catch, or a class that a method or constructor declares is not Throwable or below
abbrev pub is_not_throwable : Rows → Table → Types → ℕ → Bool
is_not_throwable p t type_of n = (is_throw (label p n) && may_not_throw p t (first p type_of n))
    || ((is_catch (label p (parent p n)) && may_not_throw p t (type_of_declared p t n))
    || (is_method_or_constructor (role_at p (parent p n)) && is_other_name (label p n) && found (declared_row (t n)) (λ c. not (is_throwable p t (class_type c)))))

-- ---- conditions

abbrev pub tests_first : Label → Bool
tests_first is.If = true
tests_first is.While = true
tests_first is.Conditional = true
tests_first (is.For false true) = true
tests_first _ = false

abbrev pub tests_second : Label → Bool
tests_second is.Do = true
tests_second (is.For true true) = true
tests_second _ = false

-- the expression n is the condition of an `if`, a loop or of ?:
abbrev pub is_condition : Rows → ℕ → Bool
is_condition p n = (tests_first (label p (parent p n)) && nat_eq n (parent p n + 1)) || (tests_second (label p (parent p n)) && nat_eq n (end p (parent p n + 1)))

abbrev pub condition_is_not_boolean : Rows → Types → ℕ → Bool
condition_is_not_boolean p type_of n = is_condition p n && found (type_of n) (λ a. not (is_plain is_boolean a))

-- ---- switches

abbrev pub is_switch : Label → Bool
is_switch is.Switch = true
is_switch _ = false

abbrev pub is_case : Label → Bool
is_case is.Case = true
is_case _ = false

abbrev pub is_default : Label → Bool
is_default is.Default = true
is_default _ = false

abbrev pub same_value : Const → Const → Bool
same_value (c.Bool false) (c.Bool false) = true
same_value (c.Bool true) (c.Bool true) = true
same_value (c.Byte a) (c.Byte b) = int_eq a b
same_value (c.Short a) (c.Short b) = int_eq a b
same_value (c.Char a) (c.Char b) = nat_eq a b
same_value (c.Int a) (c.Int b) = int_eq a b
same_value (c.Long a) (c.Long b) = int_eq a b
same_value (c.Str a) (c.Str b) = bytes_eq a b
same_value _ _ = false

-- the value of the label `case`, as one of the type of its switch
abbrev pub case_value : Rows → Constants → Types → ℕ → Option Const
case_value p constant type_of n =
    if is_case (label p n) then of_two assigned_to (option_and_then plain_of (first p type_of (switch_of p n))) (constant (n + 1)) else None

-- two labels of one switch
abbrev pub is_same_switch : Rows → ℕ → ℕ → Bool
is_same_switch p m n = nat_eq (switch_of p m) (switch_of p n)

abbrev pub is_repeated : Rows → Constants → Types → ℕ → Bool
is_repeated p constant type_of n =
    any_below n (λ m. is_same_switch p m n && both_found (case_value p constant type_of m) (case_value p constant type_of n) (λ v w. same_value v w))

abbrev pub is_second_default : Rows → ℕ → Bool
is_second_default p n = is_default (label p n) && any_below n (λ m. is_same_switch p m n && is_default (label p m))

-- a switch on another type than char, byte, short and int; a label that is not constant, not assignable or repeated; a second default
abbrev pub switch_does_not_fit : Rows → Table → Constants → Types → ℕ → Bool
switch_does_not_fit p t constant type_of n = (is_switch (label p n) && found (first p type_of n) (λ a. not (is_int_like a)))
    || ((is_case (label p n) && (not (is_some (constant (n + 1)))
    || both_found (first p type_of (switch_of p n)) (first p type_of n) (λ a b. not (is_assignable p t constant (n + 1) b a))))
    || (is_repeated p constant type_of n || is_second_default p n))

-- ---- returns

abbrev pub is_return : Label → Bool
is_return is.Return = true
is_return _ = false

abbrev pub is_initializer : Label → Bool
is_initializer (is.Initializer is_static) = true
is_initializer _ = false

abbrev pub gives_nothing : Label → Bool
gives_nothing (is.Method modifiers is_void has_body) = is_void
gives_nothing (is.Constructor modifiers) = true
gives_nothing _ = false

abbrev pub gives_result : Label → Bool
gives_result (is.Method modifiers is_void has_body) = not is_void
gives_result _ = false

abbrev pub has_value : Rows → ℕ → Bool
has_value p n = nat_eq (parent p (n + 1)) n

-- the return n does not fit the member m that holds it
abbrev pub does_not_fit_member : Rows → Table → Constants → Types → ℕ → ℕ → Bool
does_not_fit_member p t constant type_of n m = is_initializer (label p m) || ((gives_nothing (label p m) && has_value p n)
    || (gives_result (label p m) && (not (has_value p n)
    || both_found (type_of_declared p t m) (first p type_of n) (λ a b. not (is_assignable p t constant (n + 1) b a)))))

abbrev pub return_does_not_fit : Rows → Table → Constants → Types → ℕ → Bool
return_does_not_fit p t constant type_of n = is_return (label p n)
    && found (innermost p n) (λ c. any_below (length p) (λ m. is_member_round p n c m && does_not_fit_member p t constant type_of n m))

-- ---- jumps

abbrev pub is_loop : Label → Bool
is_loop is.Do = true
is_loop is.While = true
is_loop (is.For has_first has_condition) = true
is_loop _ = false

abbrev pub is_loop_or_switch : Label → Bool
is_loop_or_switch l = is_switch l || is_loop l

-- a statement that passes the test is round the place
abbrev pub is_inside : Rows → (Label → Bool) → ℕ → Bool
is_inside p test o = any_below (length p) (λ s. test (label p s) && nat_lt s o && nat_lt o (end p s))

abbrev pub is_break : Label → Bool
is_break (is.Break has_label) = not has_label
is_break _ = false

abbrev pub is_continue : Bool → Label → Bool
is_continue with_label (is.Continue true) = with_label
is_continue with_label (is.Continue false) = not with_label
is_continue with_label _ = false

-- the label d stands right before a loop
abbrev pub labels_loop : Rows → ℕ → Bool
labels_loop p d = nat_eq (parent p (d + 1)) d && is_loop (label p (d + 1))

-- a `break` in no loop or switch, a `continue` in no loop or to a label of none
abbrev pub has_no_target : Rows → Table → ℕ → Bool
has_no_target p t n = (is_break (label p n) && not (is_inside p is_loop_or_switch n))
    || ((is_continue false (label p n) && not (is_inside p is_loop n)) || (is_continue true (label p n) && found (declared_row (t n)) (λ d. not (labels_loop p d))))
