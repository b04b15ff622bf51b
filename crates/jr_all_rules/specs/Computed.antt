-- All rules of compiling that are defined so far, computed.
use Rattle.std.specs.Prelude.{ℕ, Bool, true, not, List, ◌++◌, length}
use Rattle.std.specs.List.{list_any}
use Rattle.jr_tree.specs.Rows.{Rows}
use Rattle.jr_defs.specs.Referents.{Table}
use Rattle.jr_plain.specs.Search.{all_below, has}
use Rattle.jr_plain.specs.Overriding.{overriding}
use Rattle.jr_plain.specs.Conversions.{Constants}
use Rattle.jr_plain.specs.Overloads.{Types}
use Rattle.jr_plain.specs.Typing.{expression_types}
use Rattle.jr_rules.specs.Computed.{values}
use Rattle.jr_rules.specs.Computed as typed
use Rattle.jr_name_rules.specs.Computed as named
use Rattle.jr_member_rules.specs.Redefining.{Pairs}
use Rattle.jr_member_rules.specs.Computed as members

-- the rules that are broken at the row, where the values, the types and the pairs of overriding methods are known
abbrev pub broken_at : Rows → Table → Constants → Types → Pairs → ℕ → List ℕ
broken_at p t constant type_of over n = named.broken_at p t type_of n ++ (members.broken_at p t constant over n ++ typed.broken_at p t constant type_of n)

-- the rule is broken at the row
abbrev pub breaks_all : Rows → Table → ℕ → ℕ → Bool
breaks_all p t rule n = has (broken_at p t (values p t) (expression_types p t (values p t)) (overriding p t) n) rule

-- no row breaks a rule, where the values, the types and the pairs of overriding methods are known
abbrev pub keeps_with : Rows → Table → Constants → Types → Pairs → Bool
keeps_with p t constant type_of over = all_below (length p) (λ n. not (list_any (λ rule. true) (broken_at p t constant type_of over n)))

-- no rule is broken
abbrev pub keeps_all : Rows → Table → Bool
keeps_all p t = keeps_with p t (values p t) (expression_types p t (values p t)) (overriding p t)
