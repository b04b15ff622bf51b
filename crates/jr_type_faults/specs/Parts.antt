-- Parts of the rules over facts, as the code has them.
use Rattle.std.specs.Prelude.{ℕ, ◌+◌, Bool, not, ◌&&◌, ◌||◌, if◌then◌else◌, length, Option, Some, None, is_some, option_and_then, nat_eq}
use Rattle.jr_tree.specs.Rows.{Rows, label, parent, end, role_at}
use Rattle.jr_defs.specs.declared.referent.RowType.{RowType}
use Rattle.jr_defs.specs.Types.{class_type}
use Rattle.jr_plain.specs.Conversions.{is_reference_or_null, is_castable, is_assignable}
use Rattle.jr_plain.specs.Constants.{is_value}
use Rattle.jr_plain.specs.Declarations.{is_variable}
use Rattle.jr_plain.specs.Enclosing.{innermost, is_declared_in}
use Rattle.jr_plain.specs.Instances.{is_member_round, is_in_constructor_call, is_innermost}
use Rattle.jr_plain.specs.Modifiers.{is_abstract}
use Rattle.jr_plain.specs.Search.{any_below}
use Rattle.jr_plain.specs.Supertypes.{is_subtype}
use Rattle.jr_plain.specs.Types.{named_type, type_of_declared}
use Rattle.jr_plain.specs.Typing.{first, second, third, conditional_type}
use Rattle.jr_supers.specs.Tabled.{first_child}
use Rattle.jr_types.specs.declared.conditional.Operand.{Operand}
use Rattle.jr_types.specs.Typed.{int_of, operand_of}
use Rattle.jr_rules.specs.InitializingTests as initializing
use Rattle.jr_rules.specs.ObjectTests as objects
use Rattle.jr_rules.specs.OperandTests as operands
use Rattle.jr_rules.specs.PlaceTests as places
use Rattle.jr_rules.specs.Statements.{switch_of}
use Rattle.jr_rules.specs.StatementTests as statements
use Rattle.jr_rules.specs.TypedTests.{type_below, is_int_like, declared_row, found, both_found}
use Rattle.jr_type_facts.specs.declared.facts.Facts.{Facts}
use Rattle.jr_type_facts.specs.Cases.{is_met, AreRepeated}
use Rattle.jr_type_facts.specs.Facts.{rows_of, table_of, types_of, constants_of}
use Rattle.jr_type_facts.specs.Rounds.{AreRoundsOf}

-- ---- values and types

-- the value at n, of a type, is not assignable to a type
abbrev pub does_not_fit : Facts → ℕ → Option RowType → Option RowType → Bool
does_not_fit facts n to from = both_found to from (λ a b. not (is_assignable (rows_of facts) (table_of facts) (constants_of facts) n b a))

-- the first child of n is a value that is not assignable to the type
abbrev pub first_does_not_fit : Facts → ℕ → Option RowType → Bool
first_does_not_fit facts n to = does_not_fit facts (n + 1) to (first (rows_of facts) (types_of facts) n)

abbrev pub is_typed : Facts → (RowType → Bool) → ℕ → Bool
is_typed facts test n = found (types_of facts n) test

-- ---- thrown classes and returns

abbrev pub may_not_throw : Facts → Option RowType → Bool
may_not_throw facts a = statements.may_not_throw (rows_of facts) (table_of facts) a

-- the class that n refers to is not Throwable or below
abbrev pub refers_to_other : Facts → ℕ → Bool
refers_to_other facts n = found (declared_row (table_of facts n)) (λ c. not (statements.is_throwable (rows_of facts) (table_of facts) (class_type c)))

-- the parameter n of a catch is not Throwable or below
abbrev pub is_wrong_parameter : Facts → ℕ → Bool
is_wrong_parameter facts n = statements.is_catch (label (rows_of facts) (parent (rows_of facts) n)) && may_not_throw facts (type_of_declared (rows_of facts) (table_of facts) n)

abbrev pub is_not_caught : Facts → ℕ → Bool
is_not_caught facts n = is_wrong_parameter facts n
    || (statements.is_method_or_constructor (role_at (rows_of facts) (parent (rows_of facts) n)) && statements.is_other_name (label (rows_of facts) n) && refers_to_other facts n)

-- the value of the return n is not assignable to the result of m
abbrev pub value_is_not_returned : Facts → ℕ → ℕ → Bool
value_is_not_returned facts n m = first_does_not_fit facts n (type_of_declared (rows_of facts) (table_of facts) m)

abbrev pub result_is_not_returned : Facts → ℕ → ℕ → Bool
result_is_not_returned facts n m = not (statements.has_value (rows_of facts) n) || value_is_not_returned facts n m

abbrev pub does_not_fit_method : Facts → ℕ → ℕ → Bool
does_not_fit_method facts n m = (statements.gives_nothing (label (rows_of facts) m) && statements.has_value (rows_of facts) n)
    || (statements.gives_result (label (rows_of facts) m) && result_is_not_returned facts n m)

abbrev pub does_not_fit_member : Facts → ℕ → ℕ → Bool
does_not_fit_member facts n m = statements.does_not_fit_member (rows_of facts) (table_of facts) (constants_of facts) (types_of facts) n m

-- the return n does not fit the member that holds it
abbrev pub does_not_fit_there : Facts → ℕ → Bool
does_not_fit_there facts n = found (innermost (rows_of facts) n) (λ c. any_below (length (rows_of facts)) (λ m. is_member_round (rows_of facts) n c m && does_not_fit_member facts n m))

-- ---- operands

abbrev pub takes_one_wrongly : Facts → ℕ → Bool
takes_one_wrongly facts n = operands.takes_one (label (rows_of facts) n) && is_some (first (rows_of facts) (types_of facts) n) && not (is_some (types_of facts n))

abbrev pub takes_two_wrongly : Facts → ℕ → Bool
takes_two_wrongly facts n = operands.takes_two (label (rows_of facts) n) && is_some (first (rows_of facts) (types_of facts) n)
    && is_some (second (rows_of facts) (types_of facts) n) && not (is_some (types_of facts n))

-- an operand of ?: at a row, if there is one
abbrev pub operand_in : Facts → Option ℕ → RowType → Operand
operand_in facts k a = operand_of a (option_and_then (λ m. int_of (constants_of facts m)) k)

-- ?: has a type on two types at its second and third place
abbrev pub are_typed : Facts → ℕ → RowType → RowType → Bool
are_typed facts n a b = is_some (conditional_type (rows_of facts) (table_of facts) (constants_of facts) (end (rows_of facts) (n + 1)) (end (rows_of facts) (end (rows_of facts) (n + 1))) a b)

abbrev pub are_no_branches : Facts → ℕ → RowType → RowType → Bool
are_no_branches facts n a b = operands.are_no_branches (rows_of facts) (table_of facts) (constants_of facts) n a b

-- the types of the second and third operand of n are there, and pass the test
abbrev pub of_branches : Facts → ℕ → (RowType → RowType → Bool) → Bool
of_branches facts n test = both_found (second (rows_of facts) (types_of facts) n) (third (rows_of facts) (types_of facts) n) test

-- the third operand of n, and a second one of the type, are no branches of ?:
abbrev pub is_not_taken_after : Facts → ℕ → RowType → Bool
is_not_taken_after facts n a = found (third (rows_of facts) (types_of facts) n) (λ b. are_no_branches facts n a b)

abbrev pub branches_are_not_taken : Facts → ℕ → Bool
branches_are_not_taken facts n = of_branches facts n (λ a b. are_no_branches facts n a b)

abbrev pub operands_do_not_fit_both : Facts → ℕ → Bool
operands_do_not_fit_both facts n = takes_two_wrongly facts n || (operands.is_conditional (label (rows_of facts) n) && branches_are_not_taken facts n)

abbrev pub refers_to_variable : Facts → ℕ → Bool
refers_to_variable facts n = found (declared_row (table_of facts n)) (λ d. is_variable (rows_of facts) d)

abbrev pub denotes_plainly : Facts → ℕ → Bool
denotes_plainly facts n = refers_to_variable facts n || operands.is_index (label (rows_of facts) n)

-- what is in parentheses at n
abbrev pub inner_of : Facts → ℕ → Option ℕ
inner_of facts n = if operands.is_paren (label (rows_of facts) n) then first_child (rows_of facts) n else None

abbrev pub is_testable : Facts → RowType → RowType → Bool
is_testable facts a b = is_reference_or_null a && is_castable (rows_of facts) (table_of facts) a b

abbrev pub is_no_cast : Facts → ℕ → Bool
is_no_cast facts n = both_found (type_below (rows_of facts) (table_of facts) n (n + 1)) (second (rows_of facts) (types_of facts) n)
    (λ b a. not (is_castable (rows_of facts) (table_of facts) a b))

abbrev pub is_no_test : Facts → ℕ → Bool
is_no_test facts n = both_found (first (rows_of facts) (types_of facts) n) (type_below (rows_of facts) (table_of facts) n (end (rows_of facts) (n + 1)))
    (λ a b. not (is_testable facts a b))

-- neither type is a subtype of the other
abbrev pub are_apart : Facts → RowType → RowType → Bool
are_apart facts a b = not (is_subtype (rows_of facts) (table_of facts) a b) && not (is_subtype (rows_of facts) (table_of facts) b a)

abbrev pub are_unrelated : Facts → RowType → RowType → Bool
are_unrelated facts a b = operands.are_unrelated (rows_of facts) (table_of facts) a b

-- ---- places

-- the type of the place of the value below m, where it is no right side of an assignment
abbrev pub initialized_type : Facts → ℕ → Option RowType
initialized_type facts m = if is_value (label (rows_of facts) m) then places.initializer_type (rows_of facts) (table_of facts) (types_of facts) m else None

-- the value n below m stands on the right of a plain assignment
abbrev pub is_assigned : Rows → ℕ → ℕ → Bool
is_assigned p m n = initializing.is_plain_assignment (label p m) && nat_eq n (end p (m + 1))

abbrev pub index_is_no_int : Facts → ℕ → Bool
index_is_no_int facts n = operands.is_index (label (rows_of facts) (parent (rows_of facts) n)) && nat_eq n (end (rows_of facts) (parent (rows_of facts) n + 1))
    && is_typed facts (λ a. not (is_int_like a)) n

abbrev pub indexes_no_array : Facts → ℕ → Bool
indexes_no_array facts n = operands.is_index (label (rows_of facts) (parent (rows_of facts) n)) && nat_eq n (parent (rows_of facts) n + 1) && is_typed facts (λ a. nat_eq a.dims 0) n

abbrev pub length_is_no_int : Facts → ℕ → Bool
length_is_no_int facts n = places.is_new_array (label (rows_of facts) (parent (rows_of facts) n)) && is_typed facts (λ a. not (is_int_like a)) n

-- n stands for an initializer of a type that is no array type
abbrev pub initializes_no_array : Facts → ℕ → Bool
initializes_no_array facts n = found (places.initializer_type (rows_of facts) (table_of facts) (types_of facts) n) (λ a. nat_eq a.dims 0)

-- a length that is no int, or a list in a place of no array type
abbrev pub creation_does_not_fit : Facts → ℕ → Bool
creation_does_not_fit facts n = length_is_no_int facts n || (places.is_list (label (rows_of facts) n) && initializes_no_array facts n)

abbrev pub array_is_none : Facts → ℕ → Bool
array_is_none facts n = indexes_no_array facts n || creation_does_not_fit facts n

-- ---- objects

-- the type to which the first name in n refers is abstract, and what n refers to
abbrev pub names_abstract : Facts → ℕ → Bool
names_abstract facts n = found (named_type (rows_of facts) (table_of facts) n) (λ c. is_abstract (rows_of facts) c)

abbrev pub refers_to_abstract : Facts → ℕ → Bool
refers_to_abstract facts n = found (declared_row (table_of facts n)) (λ d. is_abstract (rows_of facts) d)

-- the class, if the row is an instance member
abbrev pub object_for : Rows → ℕ → ℕ → Option ℕ
object_for p d c = if objects.is_instance_member p d then Some c else None

-- the object of the class is the one whose constructor is being called
abbrev pub is_constructed : Facts → ℕ → ℕ → Bool
is_constructed facts n c = is_in_constructor_call (rows_of facts) n && is_innermost (rows_of facts) n c

-- an object round one that is created may not be used, or an instance member stands behind the name of a type
abbrev pub lacks_round : Facts → ℕ → Bool
lacks_round facts n = (objects.is_new (label (rows_of facts) n) && objects.may_not_use (rows_of facts) n (objects.object_round (table_of facts n)))
    || objects.is_behind_type (rows_of facts) (table_of facts) n

-- the same, or the object that an instance member needs may not be used
abbrev pub lacks_member : Facts → ℕ → Bool
lacks_member facts n = objects.may_not_use (rows_of facts) n (objects.object_of_member (rows_of facts) (table_of facts n)) || lacks_round facts n

-- what n refers to is a field or method of objects
abbrev pub refers_to_instance : Facts → ℕ → Bool
refers_to_instance facts n = found (declared_row (table_of facts n)) (λ d. objects.is_instance_member (rows_of facts) d)

-- ---- initializers

abbrev pub are_same : Bool → Bool → Bool
are_same b c = (b && c) || (not b && not c)

abbrev pub is_initialized_in : Facts → ℕ → ℕ → ℕ → Bool
is_initialized_in facts n d c = is_declared_in (rows_of facts) c d && initializing.is_in_initializer (rows_of facts) n c

-- the innermost type declares d, and the place n is an initializer of it
abbrev pub is_initialized_beside : Facts → ℕ → ℕ → Bool
is_initialized_beside facts n d = found (innermost (rows_of facts) n) (λ c. is_initialized_in facts n d c)

abbrev pub refers_to_early : Facts → ℕ → Bool
refers_to_early facts n = found (declared_row (table_of facts n)) (λ d. initializing.is_early (rows_of facts) n d)

-- ---- switches

abbrev pub label_is_not_assignable : Facts → ℕ → Bool
label_is_not_assignable facts n = first_does_not_fit facts n (first (rows_of facts) (types_of facts) (switch_of (rows_of facts) n))

abbrev pub first_is_no_int : Facts → ℕ → Bool
first_is_no_int facts n = found (first (rows_of facts) (types_of facts) n) (λ a. not (is_int_like a))

abbrev pub type_is_not_switched : Facts → ℕ → Bool
type_is_not_switched facts n = statements.is_switch (label (rows_of facts) n) && first_is_no_int facts n

abbrev pub label_is_not_constant : Facts → ℕ → Bool
label_is_not_constant facts n = not (is_some (constants_of facts (n + 1)))

abbrev pub label_is_wrong : Facts → ℕ → Bool
label_is_wrong facts n = label_is_not_constant facts n || label_is_not_assignable facts n

abbrev pub label_does_not_fit : Facts → ℕ → Bool
label_does_not_fit facts n = statements.is_case (label (rows_of facts) n) && label_is_wrong facts n

-- the labels that are repeated are those of the definition
abbrev pub AreRepeatedIn : Facts → Type 0
AreRepeatedIn facts = AreRepeated (rows_of facts) (constants_of facts) (types_of facts) facts.tables.now.repeated.items

-- the constructors that come back to themselves are those of the definition
abbrev pub AreRoundsIn : Facts → Type 0
AreRoundsIn facts = AreRoundsOf (rows_of facts) (table_of facts) facts.tables.now.rounds.items

abbrev pub label_is_refused : Facts → ℕ → Bool
label_is_refused facts n = label_does_not_fit facts n || is_met (rows_of facts) (constants_of facts) (types_of facts) n
