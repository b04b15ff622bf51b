-- Faults that are added at one row, or at all rows as they rise.
use Rattle.std.specs.Prelude.{◌≡◌, ℕ, Bool, false, if◌then◌else◌, List, [], ◌∷◌, nat_eq}
use Rattle.jr_rule.specs.declared.Fault.{Fault}
use Rattle.jr_rule.specs.declared.Rule.{Rule}
use Rattle.jr_rule.specs.Numbers.{number_of}
use Rattle.jr_rule.specs.Faults.{AreFaultsOf}

-- the row, where the rule is broken
abbrev pub row_if : Bool → ℕ → List ℕ
row_if is_broken n = if is_broken then n ∷ [] else []

-- it is the rule
abbrev pub is_rule : Rule → Rule → Bool
is_rule rule one = nat_eq (number_of rule) (number_of one)

-- no faults have been added but of such rules
pub record AreOnly (is_such : Rule → Bool) (old new : List Fault) : Type 0 where
  pub others : (one : Rule) → is_such one ≡ false → AreFaultsOf one [] old new
