-- The rows at which faults say that a rule is broken.
use Rattle.std.specs.Prelude.{◌≡◌, ℕ, Bool, if◌then◌else◌, List, [], ◌∷◌, ◌++◌, nat_eq}
use Rattle.jr_rule.specs.declared.Fault.{Fault}
use Rattle.jr_rule.specs.declared.Rule.{Rule}
use Rattle.jr_rule.specs.Numbers.{number_of}

-- the fault is one of the rule
abbrev pub is_of : Rule → Fault → Bool
is_of rule fault = nat_eq (number_of fault.rule) (number_of rule)

-- the rows of the faults of a rule, in their order
abbrev pub rows_of : Rule → List Fault → List ℕ
rows_of rule [] = []
rows_of rule (fault ∷ more) = let rest = rows_of rule more in if is_of rule fault then fault.row ∷ rest else rest

-- behind those that were there, the faults of the rule stand at these rows, in this order
pub record AreFaultsOf (rule : Rule) (rows : List ℕ) (old new : List Fault) : Type 0 where
  pub are : rows_of rule new ≡ rows_of rule old ++ rows
