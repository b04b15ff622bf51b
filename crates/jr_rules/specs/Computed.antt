-- The rules on types and static contexts, computed.
use Rattle.std.specs.Prelude.{ℕ, Bool, if◌then◌else◌, List, [], ◌∷◌, ◌++◌}
use Rattle.jr_tree.specs.Rows.{Rows}
use Rattle.jr_defs.specs.Referents.{Table}
use Rattle.jr_plain.specs.Search.{has}
use Rattle.jr_plain.specs.Conversions.{Constants}
use Rattle.jr_plain.specs.Overloads.{Types}
use Rattle.jr_plain.specs.Constants.{constants, has_constant_form}
use Rattle.jr_plain.specs.Typing.{expression_types}
use Rattle.jr_rules.specs.ObjectTests.{lacks_object}
use Rattle.jr_rules.specs.InitializingTests.{is_used_too_early}
use Rattle.jr_rules.specs.CreationTests.{calls_itself_round, abstract_is_used}
use Rattle.jr_rules.specs.OperandTests.{operands_do_not_fit, is_no_variable, cast_is_not_allowed, branches_are_unrelated}
use Rattle.jr_rules.specs.StatementTests.{is_not_throwable, condition_is_not_boolean, switch_does_not_fit, return_does_not_fit, has_no_target}
use Rattle.jr_rules.specs.PlaceTests.{value_does_not_fit, void_is_used, array_does_not_fit}

-- the values of the constant expressions of a program, and the types of its expressions
abbrev pub values : Rows → Table → Constants
values p t = constants p t (has_constant_form p t)

abbrev pub types : Rows → Table → Types
types p t = expression_types p t (values p t)

-- the rule, where it is broken
abbrev pub rule_if : Bool → ℕ → List ℕ
rule_if is_broken rule = if is_broken then rule ∷ [] else []

-- the rules that are broken at the row, where the values and the types are known
abbrev pub broken_at : Rows → Table → Constants → Types → ℕ → List ℕ
broken_at p t constant type_of n =
    rule_if (lacks_object p t n) 11 ++ (rule_if (is_used_too_early p t n) 12 ++ (rule_if (calls_itself_round p t n) 22 ++ (rule_if (is_not_throwable p t type_of n) 23
    ++ (rule_if (operands_do_not_fit p t constant type_of n) 24 ++ (rule_if (value_does_not_fit p t constant type_of n) 25 ++ (rule_if (is_no_variable p t n) 26
    ++ (rule_if (cast_is_not_allowed p t type_of n) 27 ++ (rule_if (condition_is_not_boolean p type_of n) 28 ++ (rule_if (switch_does_not_fit p t constant type_of n) 29
    ++ (rule_if (void_is_used p type_of n) 30 ++ (rule_if (return_does_not_fit p t constant type_of n) 31 ++ (rule_if (abstract_is_used p t n) 32
    ++ (rule_if (array_does_not_fit p t type_of n) 33 ++ (rule_if (has_no_target p t n) 34 ++ rule_if (branches_are_unrelated p t type_of n) 35))))))))))))))

-- the rule is broken at the row
abbrev pub breaks_types : Rows → Table → ℕ → ℕ → Bool
breaks_types p t rule n = has (broken_at p t (values p t) (types p t) n) rule
