-- The rules on members, computed (JLS 8.1.1.1, 8.1.3, 8.4, 8.8, 9.3, 9.4).
use Rattle.std.specs.Prelude.{ℕ, Bool, true, not, ◌||◌, if◌then◌else◌, List, [], ◌∷◌, ◌++◌, length}
use Rattle.std.specs.List.{list_any}
use Rattle.jr_tree.specs.Rows.{Rows}
use Rattle.jr_defs.specs.Referents.{Table}
use Rattle.jr_plain.specs.Search.{all_below, has}
use Rattle.jr_plain.specs.Conversions.{Constants}
use Rattle.jr_plain.specs.Constants.{constants, has_constant_form}
use Rattle.jr_plain.specs.Overriding.{overriding}
use Rattle.jr_member_rules.specs.Redefining.{Pairs, has_other_result, is_narrowed, is_mixed, is_over_final}
use Rattle.jr_member_rules.specs.Throwing.{throws_more}
use Rattle.jr_member_rules.specs.Inheriting.{leaves_abstract, leaves_unfound, has_no_common_result, has_no_abstract_result, inherits_narrower, inherits_static, inherits_throwing}
use Rattle.jr_member_rules.specs.Bodies.{stands_wrong}
use Rattle.jr_member_rules.specs.Inner.{is_static_there}

-- the values of the constant expressions of a program
abbrev pub values : Rows → Table → Constants
values p t = constants p t (has_constant_form p t)

-- a class leaves a method abstract: a member, or one of a class above
abbrev pub leaves_methods : Rows → Table → ℕ → Bool
leaves_methods p t n = leaves_abstract p t n || leaves_unfound p t n

-- results do not fit: of a method that overrides or hides, or of methods that a type inherits
abbrev pub results_do_not_fit : Rows → Table → Pairs → ℕ → Bool
results_do_not_fit p t over n = has_other_result p t over n || (has_no_common_result p t n || has_no_abstract_result p t n)

-- access is narrowed: by a method that overrides or hides, or among methods that a type inherits
abbrev pub access_is_narrowed : Rows → Table → Pairs → ℕ → Bool
access_is_narrowed p t over n = is_narrowed p t over n || inherits_narrower p t n

-- static and instance methods are mixed
abbrev pub methods_are_mixed : Rows → Table → Pairs → ℕ → Bool
methods_are_mixed p t over n = is_mixed p t over n || inherits_static p t n

-- a checked class is declared that another method does not allow
abbrev pub more_is_thrown : Rows → Table → Pairs → ℕ → Bool
more_is_thrown p t over n = throws_more p t over n || inherits_throwing p t n

-- the rule, where it is broken
abbrev pub rule_if : Bool → ℕ → List ℕ
rule_if is_broken rule = if is_broken then rule ∷ [] else []

-- the rules that are broken at the row, where the values and the pairs of overriding methods are known
abbrev pub broken_at : Rows → Table → Constants → Pairs → ℕ → List ℕ
broken_at p t constant over n =
    rule_if (leaves_methods p t n) 14 ++ (rule_if (results_do_not_fit p t over n) 15 ++ (rule_if (access_is_narrowed p t over n) 16 ++ (rule_if (methods_are_mixed p t over n) 17
    ++ (rule_if (is_over_final p t over n) 18 ++ (rule_if (more_is_thrown p t over n) 19 ++ (rule_if (stands_wrong p n) 20 ++ rule_if (is_static_there p t constant n) 21))))))

-- the rule is broken at the row
abbrev pub breaks_members : Rows → Table → ℕ → ℕ → Bool
breaks_members p t rule n = has (broken_at p t (values p t) (overriding p t) n) rule

-- no row breaks a rule, where the values and the pairs of overriding methods are known
abbrev pub keeps_with : Rows → Table → Constants → Pairs → Bool
keeps_with p t constant over = all_below (length p) (λ n. not (list_any (λ rule. true) (broken_at p t constant over n)))

-- no rule on members is broken
abbrev pub keeps_members : Rows → Table → Bool
keeps_members p t = keeps_with p t (values p t) (overriding p t)
