-- The faults that the rules on names find, and the rows at which the definition breaks them.
use Rattle.std.specs.Prelude.{ℕ, Bool, ◌||◌, List, length}
use Rattle.jr_plain.specs.Search.{has, all_such}
use Rattle.jr_rule.specs.declared.Fault.{Fault}
use Rattle.jr_rule.specs.declared.Rule.{Rule}
use Rattle.jr_rule.specs.declared.Rule.TheVariants as rule
use Rattle.jr_rule.specs.Numbers.{number_of}
use Rattle.jr_rule.specs.Faults.{AreFaultsOf}
use Rattle.jr_faults.specs.Added.{is_rule, AreOnly}
use Rattle.jr_name_rules.specs.Computed.{broken_at}
use Rattle.jr_view.specs.declared.View.{View}
use Rattle.jr_name_faults.specs.Views.{rows_in, table_in, types_in}

-- the definition breaks the rule at the row
abbrev pub is_broken : View → Rule → ℕ → Bool
is_broken view rule n = has (broken_at (rows_in view) (table_in view) (types_in view) n) (number_of rule)

-- the rows at which it does, as they rise
abbrev pub broken_rows : View → Rule → List ℕ
broken_rows view rule = all_such (length (rows_in view)) (is_broken view rule)

-- the faults of the rule that were added are those of the definition
abbrev pub AreExactFaults : View → Rule → List Fault → List Fault → Type 0
AreExactFaults view rule old new = AreFaultsOf rule (broken_rows view rule) old new

-- ---- the rules on names

abbrev pub is_of_locals : Rule → Bool
is_of_locals one = is_rule rule.LocalNames one || is_rule rule.Labels one

abbrev pub is_of_imports : Rule → Bool
is_of_imports one = is_rule rule.ImportNames one || is_rule rule.ImportedTypes one

-- the rules 6 to 10 and 47
abbrev pub is_of_names : Rule → Bool
is_of_names one = ((is_of_locals one || is_of_imports one) || is_rule rule.Access one) || is_rule rule.StaticImports one

-- no faults were added but of these rules
abbrev pub AreOfNames : List Fault → List Fault → Type 0
AreOfNames old new = AreOnly is_of_names old new
