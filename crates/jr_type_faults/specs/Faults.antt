-- The faults that the rules on types find, and the rows at which the definition breaks them.
use Rattle.std.specs.Prelude.{◌≡◌, ℕ, Bool, true, false, ◌||◌, if◌then◌else◌, List, [], ◌∷◌, ◌++◌, length, nat_eq}
use Rattle.jr_plain.specs.Search.{has, all_such}
use Rattle.jr_rule.specs.declared.Fault.{Fault}
use Rattle.jr_rule.specs.declared.Rule.{Rule}
use Rattle.jr_rule.specs.declared.Rule.TheVariants as rule
use Rattle.jr_rule.specs.Numbers.{number_of}
use Rattle.jr_rule.specs.Faults.{AreFaultsOf}
use Rattle.jr_rules.specs.Computed.{broken_at}
use Rattle.jr_view.specs.declared.View.{View}
use Rattle.jr_faults.specs.Added.{row_if}
use Rattle.jr_type_facts.specs.declared.facts.Facts.{Facts}
use Rattle.jr_type_facts.specs.Views.{rows_in, table_in, types_in, constants_in, IsSeenView}
use Rattle.jr_type_facts.specs.Tables.{AreRightFacts, HasNoOtherThrowable}
use Rattle.jr_type_facts.specs.Rounds.{HaveOneCall}
use Rattle.jr_type_faults.specs.Parts.{AreRepeatedIn, AreRoundsIn}

-- the definition breaks the rule at the row
abbrev pub is_broken : View → Rule → ℕ → Bool
is_broken view one n = has (broken_at (rows_in view) (table_in view) (constants_in view) (types_in view) n) (number_of one)

-- the rows at which it does, as they rise
abbrev pub broken_rows : View → Rule → List ℕ
broken_rows view one = all_such (length (rows_in view)) (is_broken view one)

abbrev pub is_same : Rule → Rule → Bool
is_same one other = nat_eq (number_of one) (number_of other)

abbrev pub is_among : List Rule → Rule → Bool
is_among [] one = false
is_among (other ∷ more) one = is_same other one || is_among more one

-- the rules that are tested, in the order of the code
abbrev pub contexts : List Rule
contexts = rule.StaticContext ∷ rule.ForwardReference ∷ rule.ConstructorCycle ∷ rule.Throwable ∷ []

abbrev pub values : List Rule
values = rule.Operands ∷ rule.Assignable ∷ rule.Variable ∷ rule.Cast ∷ rule.Condition ∷ []

abbrev pub uses : List Rule
uses = rule.Switch ∷ rule.VoidValue ∷ rule.Return ∷ rule.Abstract ∷ rule.Index ∷ rule.Branches ∷ []

abbrev pub type_rules : List Rule
type_rules = contexts ++ (values ++ uses)

-- those whose faults are those of the definition
abbrev pub exact_rules : List Rule
exact_rules = rule.StaticContext ∷ rule.ForwardReference ∷ rule.ConstructorCycle ∷ rule.Throwable ∷ rule.Operands ∷ rule.Assignable ∷ rule.Variable ∷ rule.Cast ∷ rule.Condition
    ∷ rule.Switch ∷ rule.VoidValue ∷ rule.Return ∷ rule.Abstract ∷ rule.Index ∷ rule.Branches ∷ []

abbrev pub is_exact : Rule → Bool
is_exact one = is_among exact_rules one

-- the faults that were added are those of the definition, rule by rule
pub record AreExactTypeFaults (view : View) (old new : List Fault) : Type 0 where
  pub each : (one : Rule) → is_exact one ≡ true → AreFaultsOf one (broken_rows view one) old new

-- faults were added of these rules alone
pub record AreOnlyOf (rules : List Rule) (old new : List Fault) : Type 0 where
  pub others : (one : Rule) → is_among rules one ≡ false → AreFaultsOf one [] old new

-- a program whose places and supertypes are right, which has one class Throwable in its prelude, and in which a constructor's body has one call `this(..)` at most
pub record IsRightView (view : View) : Type 0 where
  pub seen : IsSeenView view
  pub throwable : HasNoOtherThrowable (rows_in view)
  pub calls : HaveOneCall (rows_in view)

-- the same, with right tables
pub record CanTell (facts : Facts) : Type 0 where
  pub right : AreRightFacts facts
  pub repeated : AreRepeatedIn facts
  pub rounds : AreRoundsIn facts
  pub throwable : HasNoOtherThrowable (rows_in facts.view)

-- ---- at one row

-- the fault, where the rule is broken
abbrev pub fault_if : Bool → ℕ → Rule → List Fault
fault_if is_broken n rule = if is_broken then record { row = n; rule = rule } ∷ [] else []

-- the row, for each of these rules that is the one, where it is broken
abbrev pub rows_by : View → ℕ → Rule → List Rule → List ℕ
rows_by view n one [] = []
rows_by view n one (other ∷ more) = (if is_same other one then row_if (is_broken view other n) n else []) ++ rows_by view n one more

-- the faults of these rules at the row were added
pub record AddsRules (view : View) (rules : List Rule) (n : ℕ) (old new : List Fault) : Type 0 where
  pub each : (one : Rule) → is_exact one ≡ true → AreFaultsOf one (rows_by view n one rules) old new

-- the faults at the row were added
pub record AddsRow (view : View) (n : ℕ) (old new : List Fault) : Type 0 where
  pub each : (one : Rule) → is_exact one ≡ true → AreFaultsOf one (row_if (is_broken view one n) n) old new
