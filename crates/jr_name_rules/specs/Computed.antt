-- The rules on declarations, headers, imports and access, computed.
use Rattle.std.specs.Prelude.{ℕ, Bool, if◌then◌else◌, List, [], ◌∷◌, ◌++◌}
use Rattle.jr_tree.specs.Rows.{Rows}
use Rattle.jr_defs.specs.Referents.{Table}
use Rattle.jr_plain.specs.Search.{has}
use Rattle.jr_plain.specs.Overloads.{Types}
use Rattle.jr_plain.specs.Constants.{constants, has_constant_form}
use Rattle.jr_plain.specs.Typing.{expression_types}
use Rattle.jr_name_rules.specs.Found.{is_next}
use Rattle.jr_name_rules.specs.DeclarationTests.{has_type_clash, is_second_field, is_second_method, is_second_constructor, is_second_local, is_second_label}
use Rattle.jr_name_rules.specs.ImportTests.{has_import_clash, is_import_not_canonical, has_static_import_fault}
use Rattle.jr_name_rules.specs.AccessTests.{is_not_accessible}
use Rattle.jr_name_rules.specs.HeaderTests.{has_wrong_supertype}

-- the types of the expressions of a program
abbrev pub types : Rows → Table → Types
types p t = expression_types p t (constants p t (has_constant_form p t))

-- the rule, where it is broken
abbrev pub rule_if : Bool → ℕ → List ℕ
rule_if is_broken rule = if is_broken then rule ∷ [] else []

-- the rules that are broken at the row, where the types are known; what imports name stands behind them
abbrev pub broken_at : Rows → Table → Types → ℕ → List ℕ
broken_at p t type_of n =
    rule_if (has_type_clash p n) 2 ++ (rule_if (is_second_field p n) 3 ++ (rule_if (is_second_method p t n) 4 ++ (rule_if (is_second_constructor p t n) 5
    ++ (rule_if (is_second_local p n) 6 ++ (rule_if (is_second_label p n) 7 ++ (rule_if (is_next (has_import_clash p t) n) 8
    ++ (rule_if (is_next (is_import_not_canonical p t) n) 9 ++ (rule_if (is_not_accessible p t type_of n) 10 ++ (rule_if (has_wrong_supertype p t n) 13
    ++ rule_if (has_static_import_fault p t n) 47)))))))))

-- the rule is broken at the row
abbrev pub breaks : Rows → Table → ℕ → ℕ → Bool
breaks p t rule n = has (broken_at p t (types p t) n) rule
