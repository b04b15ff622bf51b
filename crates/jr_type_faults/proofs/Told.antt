-- The rows of faults that are added, rule by rule.
use Rattle.std.proofs.Common.{◌≡◌, refl, sym, ◌∙◌, ap, ap₂, subst, add-one, ℕ, ◌+◌, Bool, true, false, cond, ◌||◌, List, [], ◌∷◌, ◌++◌, append_assoc, append-nil, length, nat_eq}
use Rattle.std.proofs.lemmas.Bool.{false≢true, or_parts}
use Rattle.std.proofs.lemmas.Bool.Decides.{Decides-eqb}
use Rattle.jr_tree.specs.Rows.{Rows}
use Rattle.jr_defs.specs.Referents.{Table}
use Rattle.jr_plain.specs.Search.{has, all_such}
use Rattle.jr_plain.specs.Conversions.{Constants}
use Rattle.jr_plain.specs.Overloads.{Types}
use Rattle.jr_rule.specs.declared.Fault.{Fault}
use Rattle.jr_rule.specs.declared.Rule.{Rule}
use Rattle.jr_rule.specs.declared.Rule.TheVariants as rule
use Rattle.jr_rule.specs.Numbers.{number_of}
use Rattle.jr_rule.specs.Faults.{rows_of, AreFaultsOf}
use Rattle.jr_rules.specs.ObjectTests.{lacks_object}
use Rattle.jr_rules.specs.InitializingTests.{is_used_too_early}
use Rattle.jr_rules.specs.CreationTests.{calls_itself_round, abstract_is_used}
use Rattle.jr_rules.specs.OperandTests.{operands_do_not_fit, is_no_variable, cast_is_not_allowed, branches_are_unrelated}
use Rattle.jr_rules.specs.StatementTests.{is_not_throwable, condition_is_not_boolean, switch_does_not_fit, return_does_not_fit, has_no_target}
use Rattle.jr_rules.specs.PlaceTests.{value_does_not_fit, void_is_used, array_does_not_fit}
use Rattle.jr_rules.specs.Computed.{rule_if, broken_at}
use Rattle.jr_view.specs.declared.View.{View}
use Rattle.jr_faults.specs.Added.{row_if}
use Rattle.jr_faults.proofs.Told.{rows_append, none_added, added_then, none_then}
use Rattle.jr_type_facts.specs.Views.{rows_in}
use Rattle.jr_type_faults.specs.Faults.{is_broken, is_same, is_among, is_exact, exact_rules, type_rules, rows_by, AddsRules, AddsRow, AreExactTypeFaults, AreOnlyOf, fault_if}

-- ---- one rule at one row

either_way : (e : Bool) (rows : List ℕ) → rows ≡ cond e rows rows
either_way true rows = refl
either_way false rows = refl

rows_fault : (one other : Rule) (b : Bool) (n : ℕ) → rows_of one (fault_if b n other) ≡ cond (is_same other one) (row_if b n) []
rows_fault one other true n = refl
rows_fault one other false n = either_way (is_same other one) []

-- a rule is among others by its number
abbrev is_among_numbers : List Rule → ℕ → Bool
is_among_numbers [] k = false
is_among_numbers (other ∷ more) k = nat_eq (number_of other) k || is_among_numbers more k

-- where it is the rule in question, it is told exactly
same_row : (view : View) (one other : Rule) (b : Bool) (n : ℕ) → (is_exact other ≡ true → b ≡ is_broken view other n) → is_exact one ≡ true
    → cond (is_same other one) (row_if b n) [] ≡ cond (is_same other one) (row_if (is_broken view other n) n) []
same_row view one other b n is exact = by (is_same other one) refl
  where
    as_exact : number_of other ≡ number_of one → is_exact other ≡ true
    as_exact same = ap (λ k. is_among_numbers exact_rules k) same ∙ exact

    by : (e : Bool) → is_same other one ≡ e → cond e (row_if b n) [] ≡ cond e (row_if (is_broken view other n) n) []
    by true e = ap (λ b. row_if b n) (is (as_exact ((Decides-eqb (number_of other) (number_of one)).0 e)))
    by false e = refl

pub adds : {old new : List Fault} (view : View) (other : Rule) (b : Bool) (n : ℕ) → new ≡ old ++ fault_if b n other → (is_exact other ≡ true → b ≡ is_broken view other n) → AddsRules view (other ∷ []) n old new
adds {old} view other b n added is = record {
  each = λ one exact. record {
    are = ap (rows_of one) added ∙ rows_append one old (fault_if b n other)
        ∙ ap (λ l. rows_of one old ++ l) (rows_fault one other b n ∙ same_row view one other b n is exact ∙ sym (append-nil _));
  };
}

rows_both : (view : View) (n : ℕ) (one : Rule) (xs ys : List Rule) → rows_by view n one (xs ++ ys) ≡ rows_by view n one xs ++ rows_by view n one ys
rows_both view n one [] ys = refl
rows_both view n one (x ∷ xs) ys = ap (λ l. cond (is_same x one) (row_if (is_broken view x n) n) [] ++ l) (rows_both view n one xs ys) ∙ sym (append_assoc (cond (is_same x one) (row_if (is_broken view x n) n) []) (rows_by view n one xs) (rows_by view n one ys))

pub adds_then : {view : View} {xs ys : List Rule} {n : ℕ} {old mid new : List Fault} → AddsRules view xs n old mid → AddsRules view ys n mid new → AddsRules view (xs ++ ys) n old new
adds_then {view} {xs} {ys} {n} {old} {mid} {new} h k = record { each = λ one exact. subst (λ l. AreFaultsOf one l old new) (sym (rows_both view n one xs ys)) (added_then one (h.each one exact) (k.each one exact)) }

-- ---- rules that are not tested

other_rows : (one other : Rule) (b : Bool) (n : ℕ) → is_same other one ≡ false → rows_of one (fault_if b n other) ≡ []
other_rows one other false n apart = refl
other_rows one other true n apart = ap (λ b. cond b (n ∷ []) []) apart

other_added : {old new : List Fault} (one other : Rule) (b : Bool) (n : ℕ) → is_same other one ≡ false → new ≡ old ++ fault_if b n other → AreFaultsOf one [] old new
other_added {old} one other b n apart is = record { are = ap (rows_of one) is ∙ rows_append one old (fault_if b n other) ∙ ap (λ l. rows_of one old ++ l) (other_rows one other b n apart) }

pub only : {old new : List Fault} (other : Rule) (b : Bool) (n : ℕ) → new ≡ old ++ fault_if b n other → AreOnlyOf (other ∷ []) old new
only other b n added = record { others = λ one apart. other_added one other b n (or_parts _ _ apart).0 added }

among_both : (xs ys : List Rule) (one : Rule) → is_among (xs ++ ys) one ≡ false → (is_among xs one ≡ false) × (is_among ys one ≡ false)
among_both [] ys one apart = (refl, apart)
among_both (x ∷ xs) ys one apart = let first = or_parts (is_same x one) (is_among (xs ++ ys) one) apart in let rest = among_both xs ys one first.1 in (ap₂ (λ a b. a || b) first.0 rest.0, rest.1)

pub only_then : {xs ys : List Rule} {old mid new : List Fault} → AreOnlyOf xs old mid → AreOnlyOf ys mid new → AreOnlyOf (xs ++ ys) old new
only_then {xs} {ys} h k = record { others = λ one apart. let both = among_both xs ys one apart in none_then one (h.others one both.0) (k.others one both.1) }

pub only_start : (rules : List Rule) (old : List Fault) → AreOnlyOf rules old old
only_start rules old = record { others = λ one apart. none_added one old }

pub only_more : {rules : List Rule} {old now new : List Fault} → AreOnlyOf rules old now → AreOnlyOf rules now new → AreOnlyOf rules old new
only_more h k = record { others = λ one apart. none_then one (h.others one apart) (k.others one apart) }

-- ---- a row

-- each rule that is exact is tested once
rows_once : (view : View) (n : ℕ) (one : Rule) → is_exact one ≡ true → rows_by view n one type_rules ≡ row_if (is_broken view one n) n
rows_once view n rule.StaticContext exact = append-nil _
rows_once view n rule.ForwardReference exact = append-nil _
rows_once view n rule.ConstructorCycle exact = append-nil _
rows_once view n rule.Throwable exact = append-nil _
rows_once view n rule.Operands exact = append-nil _
rows_once view n rule.Assignable exact = append-nil _
rows_once view n rule.Variable exact = append-nil _
rows_once view n rule.Cast exact = append-nil _
rows_once view n rule.Condition exact = append-nil _
rows_once view n rule.Switch exact = append-nil _
rows_once view n rule.VoidValue exact = append-nil _
rows_once view n rule.Return exact = append-nil _
rows_once view n rule.Abstract exact = append-nil _
rows_once view n rule.Index exact = append-nil _
rows_once view n rule.Branches exact = append-nil _
rows_once view n _ exact = absurd (false≢true exact)

pub row_told : {view : View} {n : ℕ} {old new : List Fault} → AddsRules view type_rules n old new → AddsRow view n old new
row_told {view} {n} {old} {new} h = record { each = λ one exact. subst (λ l. AreFaultsOf one l old new) (rows_once view n one exact) (h.each one exact) }

-- ---- the rows so far

pub record AreFaultsTo (view : View) (n : ℕ) (old now : List Fault) : Type 0 where
  pub each : (one : Rule) → is_exact one ≡ true → AreFaultsOf one (all_such n (is_broken view one)) old now

pub faults_start : (view : View) (old : List Fault) → AreFaultsTo view 0 old old
faults_start view old = record { each = λ one exact. none_added one old }

pub faults_more : {view : View} {n : ℕ} {old now new : List Fault} → AreFaultsTo view n old now → AddsRow view n now new → AreFaultsTo view (n + 1) old new
faults_more {view} {n} {old} {now} {new} h row = record { each = λ one exact. subst (λ m. AreFaultsOf one (all_such m (is_broken view one)) old new) (sym (add-one n)) (added_then one (h.each one exact) (row.each one exact)) }

pub faults_told : {view : View} {n : ℕ} {old now : List Fault} → n ≡ length (rows_in view) → AreFaultsTo view n old now → AreExactTypeFaults view old now
faults_told {view} {n} {old} {now} whole h = record { each = λ one exact. subst (λ m. AreFaultsOf one (all_such m (is_broken view one)) old now) whole (h.each one exact) }

-- ---- the rules in the list of the definition

abbrev Listed : Type 0
Listed = ℕ × Bool

abbrev listed : List Listed → List ℕ
listed [] = []
listed (x ∷ []) = rule_if x.1 x.0
listed (x ∷ y ∷ more) = rule_if x.1 x.0 ++ listed (y ∷ more)

-- the rule with the number is among them, and broken
abbrev is_listed : List Listed → ℕ → Bool
is_listed [] k = false
is_listed (x ∷ more) k = cond (nat_eq x.0 k) x.1 false || is_listed more k

one_listed : (b : Bool) (j k : ℕ) (rest : List ℕ) → has (rule_if b j ++ rest) k ≡ (cond (nat_eq j k) b false || has rest k)
one_listed true j k rest = ap (λ c. c || has rest k) (by (nat_eq j k))
  where
    by : (e : Bool) → e ≡ cond e true false
    by true = refl
    by false = refl
one_listed false j k rest = ap (λ c. c || has rest k) (by (nat_eq j k))
  where
    by : (e : Bool) → false ≡ cond e false false
    by true = refl
    by false = refl

has_listed : (all : List Listed) (k : ℕ) → has (listed all) k ≡ is_listed all k
has_listed [] k = refl
has_listed (x ∷ []) k = ap (λ l. has l k) (sym (append-nil (rule_if x.1 x.0))) ∙ one_listed x.1 x.0 k []
has_listed (x ∷ y ∷ more) k = one_listed x.1 x.0 k (listed (y ∷ more)) ∙ ap (λ b. cond (nat_eq x.0 k) x.1 false || b) (has_listed (y ∷ more) k)

or_false : (b : Bool) → (b || false) ≡ b
or_false true = refl
or_false false = refl

module _ (p : Rows) (t : Table) (constant : Constants) (types : Types) (n : ℕ) where
  abbrev all : List Listed
  all = (11, lacks_object p t n) ∷ (12, is_used_too_early p t n) ∷ (22, calls_itself_round p t n) ∷ (23, is_not_throwable p t types n) ∷ (24, operands_do_not_fit p t constant types n)
      ∷ (25, value_does_not_fit p t constant types n) ∷ (26, is_no_variable p t n) ∷ (27, cast_is_not_allowed p t types n) ∷ (28, condition_is_not_boolean p types n)
      ∷ (29, switch_does_not_fit p t constant types n) ∷ (30, void_is_used p types n) ∷ (31, return_does_not_fit p t constant types n) ∷ (32, abstract_is_used p t n)
      ∷ (33, array_does_not_fit p t types n) ∷ (34, has_no_target p t n) ∷ (35, branches_are_unrelated p t types n) ∷ []

  at_rule : (k : ℕ) → has (broken_at p t constant types n) k ≡ is_listed all k
  at_rule k = has_listed all k

  pub object_at : has (broken_at p t constant types n) 11 ≡ lacks_object p t n
  object_at = at_rule 11 ∙ or_false _

  pub early_at : has (broken_at p t constant types n) 12 ≡ is_used_too_early p t n
  early_at = at_rule 12 ∙ or_false _

  pub round_at : has (broken_at p t constant types n) 22 ≡ calls_itself_round p t n
  round_at = at_rule 22 ∙ or_false _

  pub throwable_at : has (broken_at p t constant types n) 23 ≡ is_not_throwable p t types n
  throwable_at = at_rule 23 ∙ or_false _

  pub operands_at : has (broken_at p t constant types n) 24 ≡ operands_do_not_fit p t constant types n
  operands_at = at_rule 24 ∙ or_false _

  pub value_at : has (broken_at p t constant types n) 25 ≡ value_does_not_fit p t constant types n
  value_at = at_rule 25 ∙ or_false _

  pub variable_at : has (broken_at p t constant types n) 26 ≡ is_no_variable p t n
  variable_at = at_rule 26 ∙ or_false _

  pub cast_at : has (broken_at p t constant types n) 27 ≡ cast_is_not_allowed p t types n
  cast_at = at_rule 27 ∙ or_false _

  pub condition_at : has (broken_at p t constant types n) 28 ≡ condition_is_not_boolean p types n
  condition_at = at_rule 28 ∙ or_false _

  pub switch_at : has (broken_at p t constant types n) 29 ≡ switch_does_not_fit p t constant types n
  switch_at = at_rule 29 ∙ or_false _

  pub void_at : has (broken_at p t constant types n) 30 ≡ void_is_used p types n
  void_at = at_rule 30 ∙ or_false _

  pub return_at : has (broken_at p t constant types n) 31 ≡ return_does_not_fit p t constant types n
  return_at = at_rule 31 ∙ or_false _

  pub abstract_at : has (broken_at p t constant types n) 32 ≡ abstract_is_used p t n
  abstract_at = at_rule 32 ∙ or_false _

  pub array_at : has (broken_at p t constant types n) 33 ≡ array_does_not_fit p t types n
  array_at = at_rule 33 ∙ or_false _

  pub branches_at : has (broken_at p t constant types n) 35 ≡ branches_are_unrelated p t types n
  branches_at = at_rule 35 ∙ or_false _
