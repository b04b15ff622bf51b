-- The tests of operands, of what is assigned to, of casts and of branches tell what they are to tell.
use Rattle.std.proofs.Common.{◌≡◌, ◌⊎◌, refl, inl, inr, arith, ℕ, zero, suc, ◌+◌, ◌≤◌, Bool, not, ◌&&◌, length, Option, is_some, Decides}
use Rattle.std.proofs.lemmas.Bool.{false≢true}
use Rattle.std.proofs.lemmas.Bool.Decides.{Decides-eqb}
use Rattle.jr_base.specs.declared.kind.Symbol.{Symbol}
use Rattle.jr_base.specs.declared.kind.Symbol.TheVariants as y
use Rattle.jr_tree.specs.declared.label.Label.{Label}
use Rattle.jr_tree.specs.declared.label.Label.TheVariants as is
use Rattle.jr_tree.specs.Rows.{Rows, label, parent, end}
use Rattle.jr_defs.specs.declared.referent.RowType.{RowType}
use Rattle.jr_defs.specs.declared.referent.Referent.TheVariants.{Declared}
use Rattle.jr_defs.specs.Referents.{Table}
use Rattle.jr_defs.specs.Declarations.{IsVariable}
use Rattle.jr_defs.specs.Supertypes.{IsReferenceType, Subtype}
use Rattle.jr_defs.specs.Constants.{HasConstantForm, ConstantOf}
use Rattle.jr_defs.specs.Conversions.{IsReferenceOrNull, IsCastable}
use Rattle.jr_defs.specs.Typing.{ConditionalType}
use Rattle.jr_plain.specs.Search.{Finds}
use Rattle.jr_plain.specs.Declarations.{is_variable}
use Rattle.jr_plain.specs.Conversions.{Constants, is_reference_or_null, is_castable}
use Rattle.jr_plain.specs.Overloads.{Types}
use Rattle.jr_plain.specs.Typing.{IsTypable, IsVariableLabel, first, second, third, conditional_type, is_assign}
use Rattle.jr_plain.proofs.Tests.{always, never, both, either, opposite, like}
use Rattle.jr_plain.proofs.Bounds.{label_past}
use Rattle.jr_plain.proofs.Declared.{variable_tells}
use Rattle.jr_plain.proofs.Modified.{found_tells, some_tells}
use Rattle.jr_plain.proofs.Supertyped.{reference_type_tells, subtype_tells}
use Rattle.jr_plain.proofs.Converted.{reference_or_null_tells, castable_tells}
use Rattle.jr_plain.proofs.Chosen.{conditional_finds}
use Rattle.jr_rules.specs.Typed.{Typed, FirstOf, SecondOf, ThirdOf, TypeBelow}
use Rattle.jr_rules.specs.Operands.{TakesOne, IsCompound, TakesTwo, HasNoType, HaveNoType, OperandsDoNotFit, DenotesVariable, ChangesFirst, IsNoVariable, CastIsNotAllowed, BranchesAreUnrelated}
use Rattle.jr_rules.specs.TypedTests.{type_below, declared_row}
use Rattle.jr_rules.specs.OperandTests as plain
use Rattle.jr_rules.proofs.Kids.{declared_finds, both_found_tells, type_below_finds, first_finds, second_finds, third_finds}

takes_one_tells : (l : Label) → Decides (plain.takes_one l) (TakesOne l)
takes_one_tells (is.Unary op) = always
takes_one_tells (is.PreStep op) = always
takes_one_tells (is.PostStep op) = always
takes_one_tells _ = never

compound_tells : (op : Symbol) → Decides (not (is_assign op)) (IsCompound op)
compound_tells y.Assign = never
compound_tells _ = always

takes_two_tells : (l : Label) → Decides (plain.takes_two l) (TakesTwo l)
takes_two_tells (is.Binary op) = always
takes_two_tells (is.Assign op) = compound_tells op
takes_two_tells _ = never

conditional_label_tells : (l : Label) → Decides (plain.is_conditional l) (l ≡ is.Conditional)
conditional_label_tells is.Conditional = (λ h. refl, λ e. refl)
conditional_label_tells _ = (λ h. absurd (false≢true h), λ e. absurd (cc))

pub index_label_tells : (l : Label) → Decides (plain.is_index l) (l ≡ is.Index)
index_label_tells is.Index = (λ h. refl, λ e. refl)
index_label_tells _ = (λ h. absurd (false≢true h), λ e. absurd (cc))

paren_label_tells : (l : Label) → Decides (plain.is_paren l) (l ≡ is.Paren)
paren_label_tells is.Paren = (λ h. refl, λ e. refl)
paren_label_tells _ = (λ h. absurd (false≢true h), λ e. absurd (cc))

cast_label_tells : (l : Label) → Decides (plain.is_cast l) (l ≡ is.Cast)
cast_label_tells is.Cast = (λ h. refl, λ e. refl)
cast_label_tells _ = (λ h. absurd (false≢true h), λ e. absurd (cc))

test_label_tells : (l : Label) → Decides (plain.is_test l) (l ≡ is.IsA)
test_label_tells is.IsA = (λ h. refl, λ e. refl)
test_label_tells _ = (λ h. absurd (false≢true h), λ e. absurd (cc))

changes_first_tells : (l : Label) → Decides (plain.changes_first l) (ChangesFirst l)
changes_first_tells (is.Assign op) = always
changes_first_tells (is.PreStep op) = always
changes_first_tells (is.PostStep op) = always
changes_first_tells _ = never

-- nothing is found
pub none_tells : {A : Type 0} (P : A → Type 0) (found : Option A) → Finds found P → Decides (not (is_some found)) ((a : A) → P a → ⊥)
none_tells P found finds = like (opposite (some_tells P found finds)) (λ h a k. h (a, k)) (λ h k. h k.0 k.1)

module _ (p : Rows) (t : Table) (typable : IsTypable p t) where
  -- ---- what denotes a variable

  abbrev Denotes : ℕ → Type 0 → Type 0
  Denotes n Inner = ((d : ℕ) × ((level : Option ℕ) × (t n ≡ Declared d level)) × IsVariable p d) ⊎ ((label p n ≡ is.Index) ⊎ (((label p n ≡ is.Paren) × (parent p (n + 1) ≡ n)) × Inner))

  denotes_step : (n : ℕ) (inner : Bool) (Inner : Type 0) → Decides inner Inner
      → Decides (plain.denotes_by p t n inner) (Denotes n Inner)
  denotes_step n inner Inner d = either
      (found_tells (λ d. (level : Option ℕ) × (t n ≡ Declared d level)) (λ d. is_variable p d) (λ d. IsVariable p d) (variable_tells p) (declared_row (t n)) (declared_finds (t n)))
      (either (index_label_tells (label p n)) (both (both (paren_label_tells (label p n)) (Decides-eqb (parent p (n + 1)) n)) d))

  denotes_out : (n : ℕ) → Denotes n (DenotesVariable p t (n + 1)) → DenotesVariable p t n
  denotes_out n (inl h) = DenotesVariable.named_variable h.1.1 h.2
  denotes_out n (inr (inl h)) = DenotesVariable.component h
  denotes_out n (inr (inr h)) = DenotesVariable.in_parentheses h.0.0 h.0.1 h.1

  denotes_in : (n : ℕ) → DenotesVariable p t n → Denotes n (DenotesVariable p t (n + 1))
  denotes_in _ (DenotesVariable.named_variable {n = n} {d = d} {level = level} e v) = inl (d, (level, e), v)
  denotes_in _ (DenotesVariable.component e) = inr (inl e)
  denotes_in _ (DenotesVariable.in_parentheses e up h) = inr (inr ((e, up), h))

  variable_skip : (l : Label) → IsVariableLabel l → l ≡ is.Skip → ⊥
  variable_skip (is.Name kind place is_qualified) v e = cc
  variable_skip is.Select v e = cc
  variable_skip is.SuperSelect v e = cc
  variable_skip _ v e = v

  denoting_row : {n : ℕ} → DenotesVariable p t n → label p n ≡ is.Skip → ⊥
  denoting_row (DenotesVariable.named_variable {n = n} {d = d} {level = level} e v) at = variable_skip (label p n) (typable.variable n d level e v) at
  denoting_row (DenotesVariable.component e) at = cc
  denoting_row (DenotesVariable.in_parentheses e up h) at = cc

  pub denotes_tells : (rounds n : ℕ) → length p ≤ n + rounds → Decides (plain.denotes_within p t rounds n) (DenotesVariable p t n)
  denotes_tells zero n le = like never (λ h. absurd h) (λ h. denoting_row h (label_past p n (omega arith)))
  denotes_tells (suc rounds) n le = like (denotes_step n (plain.denotes_within p t rounds (n + 1)) (DenotesVariable p t (n + 1)) (denotes_tells rounds (n + 1) (omega arith))) (denotes_out n) (denotes_in n)

  pub no_variable_tells : (n : ℕ) → Decides (plain.is_no_variable p t n) (IsNoVariable p t n)
  no_variable_tells n = like (both (both (changes_first_tells (label p (parent p n))) (Decides-eqb n (parent p n + 1))) (opposite (denotes_tells (length p) n (omega arith))))
      (λ h. record { changed = h.0.0; operand = h.0.1; no_variable = h.1 }) (λ h. ((h.changed, h.operand), h.no_variable))

  module _ (type_of : Types) (typed : (n : ℕ) → Finds (type_of n) (λ a. Typed p t n a)) where
    -- ---- casts and branches

    abbrev Casts : ℕ → Type 0
    Casts n = ((label p n ≡ is.Cast) × ((b : RowType) × TypeBelow p t n (n + 1) b × ((a : RowType) × SecondOf p t n a × (IsCastable p t a b → ⊥))))
        ⊎ ((label p n ≡ is.IsA) × ((a : RowType) × FirstOf p t n a × ((b : RowType) × TypeBelow p t n (end p (n + 1)) b × (IsReferenceOrNull a × IsCastable p t a b → ⊥))))

    casts_tell : (n : ℕ) → Decides (plain.cast_is_not_allowed p t type_of n) (Casts n)
    casts_tell n = either
        (both (cast_label_tells (label p n)) (both_found_tells (λ b. TypeBelow p t n (n + 1) b) (λ a. SecondOf p t n a) (λ b a. not (is_castable p t a b)) (λ b a. IsCastable p t a b → ⊥)
        (λ b a. opposite (castable_tells p t typable.headed a b)) (type_below p t n (n + 1)) (second p type_of n) (type_below_finds p t n (n + 1)) (second_finds p t type_of typed n)))
        (both (test_label_tells (label p n)) (both_found_tells (λ a. FirstOf p t n a) (λ b. TypeBelow p t n (end p (n + 1)) b)
        (λ a b. not (is_reference_or_null a && is_castable p t a b)) (λ a b. IsReferenceOrNull a × IsCastable p t a b → ⊥)
        (λ a b. opposite (both (reference_or_null_tells a) (castable_tells p t typable.headed a b))) (first p type_of n) (type_below p t n (end p (n + 1)))
        (first_finds p t type_of typed n) (type_below_finds p t n (end p (n + 1)))))

    casts_out : (n : ℕ) → Casts n → CastIsNotAllowed p t n
    casts_out n (inl h) = CastIsNotAllowed.of_cast h.0 h.1.1 h.1.2.1 h.1.2.2
    casts_out n (inr h) = CastIsNotAllowed.of_test h.0 h.1.1 h.1.2.1 h.1.2.2

    casts_in : (n : ℕ) → CastIsNotAllowed p t n → Casts n
    casts_in n (CastIsNotAllowed.of_cast {a = a} {b = b} at i j out) = inl (at, (b, i, (a, j, out)))
    casts_in n (CastIsNotAllowed.of_test {a = a} {b = b} at i j out) = inr (at, (a, i, (b, j, out)))

    pub cast_tells : (n : ℕ) → Decides (plain.cast_is_not_allowed p t type_of n) (CastIsNotAllowed p t n)
    cast_tells n = like (casts_tell n) (casts_out n) (casts_in n)

    abbrev Unrelated : RowType → RowType → Type 0
    Unrelated a b = (IsReferenceType a × IsReferenceType b) × ((Subtype p t a b → ⊥) × (Subtype p t b a → ⊥))

    unrelated_tells : (a b : RowType) → Decides (plain.are_unrelated p t a b) (Unrelated a b)
    unrelated_tells a b = both (both (reference_type_tells a) (reference_type_tells b)) (both (opposite (subtype_tells p t typable.headed a b)) (opposite (subtype_tells p t typable.headed b a)))

    pub branches_tell : (n : ℕ) → Decides (plain.branches_are_unrelated p t type_of n) (BranchesAreUnrelated p t n)
    branches_tell n = like
        (both (conditional_label_tells (label p n)) (both_found_tells (λ a. SecondOf p t n a) (λ b. ThirdOf p t n b) (λ a b. plain.are_unrelated p t a b) Unrelated
        unrelated_tells (second p type_of n) (third p type_of n) (second_finds p t type_of typed n) (third_finds p t type_of typed n)))
        (λ h. record { conditional = h.0; left = h.1.0; right = h.1.2.0; second = h.1.1; third = h.1.2.1; references = h.1.2.2.0; unrelated = h.1.2.2.1 })
        (λ h. (h.conditional, (h.left, h.second, (h.right, h.third, (h.references, h.unrelated)))))

    -- ---- operands

    module _ (constant : Constants) (known : (n : ℕ) → Finds (constant n) (λ v. ConstantOf p t (HasConstantForm p t) n v)) where
      abbrev NoBranches : ℕ → RowType → RowType → Type 0
      NoBranches n a b = (IsReferenceType a × IsReferenceType b → ⊥) × HaveNoType p t n a b

      no_branches_tell : (n : ℕ) (a b : RowType) → Decides (plain.are_no_branches p t constant n a b) (NoBranches n a b)
      no_branches_tell n a b = both (opposite (both (reference_type_tells a) (reference_type_tells b)))
          (none_tells (λ r. ConditionalType p t (HasConstantForm p t) (end p (n + 1)) (end p (end p (n + 1))) a b r) (conditional_type p t constant (end p (n + 1)) (end p (end p (n + 1))) a b)
          (conditional_finds p t typable (HasConstantForm p t) constant known (end p (n + 1)) (end p (end p (n + 1))) a b))

      abbrev Operands : ℕ → Type 0
      Operands n = ((TakesOne (label p n) × ((a : RowType) × FirstOf p t n a)) × HasNoType p t n)
          ⊎ ((((TakesTwo (label p n) × ((a : RowType) × FirstOf p t n a)) × ((b : RowType) × SecondOf p t n b)) × HasNoType p t n)
          ⊎ ((label p n ≡ is.Conditional) × ((a : RowType) × SecondOf p t n a × ((b : RowType) × ThirdOf p t n b × NoBranches n a b))))

      operands_tell : (n : ℕ) → Decides (plain.operands_do_not_fit p t constant type_of n) (Operands n)
      operands_tell n =
          let one = some_tells (λ a. FirstOf p t n a) (first p type_of n) (first_finds p t type_of typed n) in
          let untyped = none_tells (λ a. Typed p t n a) (type_of n) (typed n) in
          either (both (both (takes_one_tells (label p n)) one) untyped)
          (either (both (both (both (takes_two_tells (label p n)) one) (some_tells (λ a. SecondOf p t n a) (second p type_of n) (second_finds p t type_of typed n))) untyped)
          (both (conditional_label_tells (label p n)) (both_found_tells (λ a. SecondOf p t n a) (λ b. ThirdOf p t n b) (λ a b. plain.are_no_branches p t constant n a b) (NoBranches n)
          (no_branches_tell n) (second p type_of n) (third p type_of n) (second_finds p t type_of typed n) (third_finds p t type_of typed n))))

      operands_out : (n : ℕ) → Operands n → OperandsDoNotFit p t n
      operands_out n (inl h) = OperandsDoNotFit.one_operand h.0.0 h.0.1.1 h.1
      operands_out n (inr (inl h)) = OperandsDoNotFit.two_operands h.0.0.0 h.0.0.1.1 h.0.1.1 h.1
      operands_out n (inr (inr h)) = OperandsDoNotFit.two_branches h.0 h.1.1 h.1.2.1 h.1.2.2.0 h.1.2.2.1

      operands_in : (n : ℕ) → OperandsDoNotFit p t n → Operands n
      operands_in n (OperandsDoNotFit.one_operand {a = a} l h out) = inl ((l, (a, h)), out)
      operands_in n (OperandsDoNotFit.two_operands {a = a} {b = b} l h k out) = inr (inl (((l, (a, h)), (b, k)), out))
      operands_in n (OperandsDoNotFit.two_branches {a = a} {b = b} at h k i j) = inr (inr (at, (a, h, (b, k, (i, j)))))

      pub operands_do_not_fit_tells : (n : ℕ) → Decides (plain.operands_do_not_fit p t constant type_of n) (OperandsDoNotFit p t n)
      operands_do_not_fit_tells n = like (operands_tell n) (operands_out n) (operands_in n)
