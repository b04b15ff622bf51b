-- The tests of thrown classes, conditions and returns tell what they are to tell.
use Rattle.std.proofs.Common.{◌≡◌, ◌⊎◌, refl, sym, inl, inr, ⊎_elim, ℕ, ◌+◌, Bool, true, false, not, ◌&&◌, length, codes, Option, Decides}
use Rattle.std.proofs.lemmas.Bool.{false≢true}
use Rattle.std.proofs.lemmas.Bool.Decides.{Decides-eqb}
use Rattle.jr_tree.specs.declared.label.Label.{Label}
use Rattle.jr_tree.specs.declared.label.Label.TheVariants as is
use Rattle.jr_tree.specs.declared.label.NamePlace.TheVariants as place
use Rattle.jr_tree.specs.declared.label.Role.{Role}
use Rattle.jr_tree.specs.declared.label.Role.TheVariants as role
use Rattle.jr_tree.specs.Rows.{Rows, label, parent, end, role_at}
use Rattle.jr_defs.specs.declared.referent.Element.TheVariants as element
use Rattle.jr_defs.specs.declared.referent.RowType.{RowType}
use Rattle.jr_defs.specs.declared.referent.Referent.TheVariants.{Declared}
use Rattle.jr_defs.specs.Referents.{Table}
use Rattle.jr_defs.specs.Declarations.{IsPrelude}
use Rattle.jr_defs.specs.Enclosing.{Innermost}
use Rattle.jr_defs.specs.Types.{plain, class_type, HasType}
use Rattle.jr_defs.specs.Supertypes.{Subtype}
use Rattle.jr_defs.specs.Constants.{HasConstantForm, ConstantOf}
use Rattle.jr_defs.specs.Conversions.{IsAssignable}
use Rattle.jr_defs.specs.MemberRules.{IsOtherName, IsInitializer}
use Rattle.jr_plain.specs.Search.{Finds}
use Rattle.jr_plain.specs.Declarations.{is_prelude}
use Rattle.jr_plain.specs.Enclosing.{innermost}
use Rattle.jr_plain.specs.Instances.{is_member_round}
use Rattle.jr_plain.specs.Types.{type_of_declared}
use Rattle.jr_plain.specs.Supertypes.{is_subtype}
use Rattle.jr_plain.specs.Conversions.{Constants, is_boolean, is_plain, is_assignable}
use Rattle.jr_plain.specs.Overloads.{Types}
use Rattle.jr_plain.specs.Typing.{IsTypable, first}
use Rattle.jr_plain.proofs.Tests.{always, never, both, either, opposite, like}
use Rattle.jr_plain.proofs.Searches.{some}
use Rattle.jr_plain.proofs.Bounds.{type_below}
use Rattle.jr_plain.proofs.Declared.{prelude_tells}
use Rattle.jr_plain.proofs.Enclosed.{innermost_finds}
use Rattle.jr_plain.proofs.Modified.{found_tells}
use Rattle.jr_plain.proofs.Typed.{has_type_finds}
use Rattle.jr_plain.proofs.Supertyped.{subtype_tells}
use Rattle.jr_plain.proofs.Converted.{boolean_tells, is_plain_one, assignable_tells}
use Rattle.jr_rules.specs.Typed.{Typed, FirstOf, InMember}
use Rattle.jr_rules.specs.Statements.{IsThrowable, IsMethodOrConstructor, IsNotThrowable, TestsFirst, TestsSecond, IsCondition, ConditionIsNotBoolean, GivesNothing, GivesResult, ReturnDoesNotFit}
use Rattle.jr_rules.specs.TypedTests.{declared_row}
use Rattle.jr_rules.specs.StatementTests as plain
use Rattle.jr_rules.proofs.Kids.{declared_finds, both_found_tells, first_finds, Round, round_tells, member_row}

-- ---- labels

throw_tells : (l : Label) → Decides (plain.is_throw l) (l ≡ is.Throw)
throw_tells is.Throw = (λ h. refl, λ e. refl)
throw_tells _ = (λ h. absurd (false≢true h), λ e. absurd (cc))

catch_tells : (l : Label) → Decides (plain.is_catch l) (l ≡ is.Catch)
catch_tells is.Catch = (λ h. refl, λ e. refl)
catch_tells _ = (λ h. absurd (false≢true h), λ e. absurd (cc))

return_label_tells : (l : Label) → Decides (plain.is_return l) (l ≡ is.Return)
return_label_tells is.Return = (λ h. refl, λ e. refl)
return_label_tells _ = (λ h. absurd (false≢true h), λ e. absurd (cc))

method_or_constructor_tells : (r : Role) → Decides (plain.is_method_or_constructor r) (IsMethodOrConstructor r)
method_or_constructor_tells role.Method = always
method_or_constructor_tells role.Constructor = always
method_or_constructor_tells _ = never

other_name_tells : (l : Label) → Decides (plain.is_other_name l) (IsOtherName l)
other_name_tells (is.Name kind place.Other is_qualified) = always
other_name_tells _ = never

tests_first_tells : (l : Label) → Decides (plain.tests_first l) (TestsFirst l)
tests_first_tells is.If = always
tests_first_tells is.While = always
tests_first_tells is.Conditional = always
tests_first_tells (is.For false true) = always
tests_first_tells _ = never

tests_second_tells : (l : Label) → Decides (plain.tests_second l) (TestsSecond l)
tests_second_tells is.Do = always
tests_second_tells (is.For true true) = always
tests_second_tells _ = never

initializer_tells : (l : Label) → Decides (plain.is_initializer l) (IsInitializer l)
initializer_tells (is.Initializer is_static) = always
initializer_tells _ = never

itself_true : (b : Bool) → Decides b (b ≡ true)
itself_true b = (λ h. h, λ h. h)

denied : (b : Bool) → Decides (not b) (b ≡ false)
denied true = (λ h. absurd (false≢true h), λ e. absurd (false≢true (sym e)))
denied false = (λ h. refl, λ e. refl)

gives_nothing_tells : (l : Label) → Decides (plain.gives_nothing l) (GivesNothing l)
gives_nothing_tells (is.Method modifiers is_void has_body) = itself_true is_void
gives_nothing_tells (is.Constructor modifiers) = always
gives_nothing_tells _ = never

gives_result_tells : (l : Label) → Decides (plain.gives_result l) (GivesResult l)
gives_result_tells (is.Method modifiers is_void has_body) = denied is_void
gives_result_tells _ = never

-- ---- conditions

pub condition_tells : (p : Rows) (n : ℕ) → Decides (plain.is_condition p n) (IsCondition p n)
condition_tells p n = like
    (either (both (tests_first_tells (label p (parent p n))) (Decides-eqb n (parent p n + 1))) (both (tests_second_tells (label p (parent p n))) (Decides-eqb n (end p (parent p n + 1)))))
    (⊎_elim (λ h. IsCondition.as_first h.0 h.1) (λ h. IsCondition.as_second h.0 h.1)) into
  where
    into : IsCondition p n → (TestsFirst (label p (parent p n)) × (n ≡ parent p n + 1)) ⊎ (TestsSecond (label p (parent p n)) × (n ≡ end p (parent p n + 1)))
    into (IsCondition.as_first h e) = inl (h, e)
    into (IsCondition.as_second h e) = inr (h, e)

module _ (p : Rows) (t : Table) (typable : IsTypable p t) where
  -- ---- thrown classes

  pub throwable_tells : (a : RowType) → Decides (plain.is_throwable p t a) (IsThrowable p t a)
  throwable_tells a = like
      (some (λ c. is_prelude p (codes "Throwable") c && is_subtype p t a (class_type c)) (λ c. IsPrelude p (codes "Throwable") c × Subtype p t a (class_type c))
      (λ c. both (prelude_tells p (codes "Throwable") c) (subtype_tells p t typable.headed a (class_type c))) (length p) (λ c h. let k = h.0 in type_below p c k.type))
      (λ h. record { throwable = h.0; named = h.1.0; below = h.1.1 }) (λ h. (h.throwable, (h.named, h.below)))

  may_not_throw_tells : (P : RowType → Type 0) (type : Option RowType) → Finds type P → Decides (plain.may_not_throw p t type) ((a : RowType) × P a × (IsThrowable p t a → ⊥))
  may_not_throw_tells P type finds = found_tells P (λ a. not (plain.is_throwable p t a)) (λ a. IsThrowable p t a → ⊥) (λ a. opposite (throwable_tells a)) type finds

  module _ (type_of : Types) (typed : (n : ℕ) → Finds (type_of n) (λ a. Typed p t n a)) where
    abbrev Throws : ℕ → Type 0
    Throws n = ((label p n ≡ is.Throw) × ((a : RowType) × FirstOf p t n a × (IsThrowable p t a → ⊥)))
        ⊎ (((label p (parent p n) ≡ is.Catch) × ((a : RowType) × HasType p t n a × (IsThrowable p t a → ⊥)))
        ⊎ ((IsMethodOrConstructor (role_at p (parent p n)) × IsOtherName (label p n))
        × ((c : ℕ) × ((level : Option ℕ) × (t n ≡ Declared c level)) × (IsThrowable p t (class_type c) → ⊥))))

    throws_tell : (n : ℕ) → Decides (plain.is_not_throwable p t type_of n) (Throws n)
    throws_tell n = either (both (throw_tells (label p n)) (may_not_throw_tells (λ a. FirstOf p t n a) (first p type_of n) (first_finds p t type_of typed n)))
        (either (both (catch_tells (label p (parent p n))) (may_not_throw_tells (λ a. HasType p t n a) (type_of_declared p t n) (has_type_finds p t n)))
        (both (both (method_or_constructor_tells (role_at p (parent p n))) (other_name_tells (label p n)))
        (found_tells (λ c. (level : Option ℕ) × (t n ≡ Declared c level)) (λ c. not (plain.is_throwable p t (class_type c))) (λ c. IsThrowable p t (class_type c) → ⊥)
        (λ c. opposite (throwable_tells (class_type c))) (declared_row (t n)) (declared_finds (t n)))))

    throws_out : (n : ℕ) → Throws n → IsNotThrowable p t n
    throws_out n (inl h) = IsNotThrowable.of_throw h.0 h.1.1 h.1.2
    throws_out n (inr (inl h)) = IsNotThrowable.of_catch h.0 h.1.1 h.1.2
    throws_out n (inr (inr h)) = IsNotThrowable.of_header h.0.0 h.0.1 h.1.1.1 h.1.2

    throws_in : (n : ℕ) → IsNotThrowable p t n → Throws n
    throws_in n (IsNotThrowable.of_throw {a = a} at h out) = inl (at, (a, h, out))
    throws_in n (IsNotThrowable.of_catch {a = a} at h out) = inr (inl (at, (a, h, out)))
    throws_in n (IsNotThrowable.of_header {c = c} {level = level} r i e out) = inr (inr ((r, i), (c, (level, e), out)))

    pub not_throwable_tells : (n : ℕ) → Decides (plain.is_not_throwable p t type_of n) (IsNotThrowable p t n)
    not_throwable_tells n = like (throws_tell n) (throws_out n) (throws_in n)

    -- ---- conditions

    pub not_boolean_tells : (n : ℕ) → Decides (plain.condition_is_not_boolean p type_of n) (ConditionIsNotBoolean p t n)
    not_boolean_tells n = like
        (both (condition_tells p n) (found_tells (λ a. Typed p t n a) (λ a. not (is_plain is_boolean a)) (λ a. a ≡ plain element.Boolean → ⊥)
        (λ a. opposite (is_plain_one element.Boolean is_boolean boolean_tells a)) (type_of n) (typed n)))
        (λ h. record { condition = h.0; type = h.1.0; typed = h.1.1; other = h.1.2 }) (λ h. (h.condition, (h.type, h.typed, h.other)))

    -- ---- returns

    module _ (constant : Constants) (known : (n : ℕ) → Finds (constant n) (λ v. ConstantOf p t (HasConstantForm p t) n v)) where
      not_assignable_tells : (n : ℕ) (a b : RowType) → Decides (not (is_assignable p t constant n b a)) (IsAssignable p t (HasConstantForm p t) n b a → ⊥)
      not_assignable_tells n a b = opposite (assignable_tells p t typable.headed (HasConstantForm p t) constant n (known n) b a)

      abbrev OtherValue : ℕ → ℕ → Type 0
      OtherValue n m = (a : RowType) × HasType p t m a × ((b : RowType) × FirstOf p t n b × (IsAssignable p t (HasConstantForm p t) (n + 1) b a → ⊥))

      abbrev Member : ℕ → ℕ → Type 0
      Member n m = IsInitializer (label p m) ⊎ ((GivesNothing (label p m) × (parent p (n + 1) ≡ n))
          ⊎ (GivesResult (label p m) × ((parent p (n + 1) ≡ n → ⊥) ⊎ OtherValue n m)))

      member_tells : (n m : ℕ) → Decides (plain.does_not_fit_member p t constant type_of n m) (Member n m)
      member_tells n m = let has = Decides-eqb (parent p (n + 1)) n in
          either (initializer_tells (label p m)) (either (both (gives_nothing_tells (label p m)) has)
          (both (gives_result_tells (label p m)) (either (opposite has)
          (both_found_tells (λ a. HasType p t m a) (λ b. FirstOf p t n b) (λ a b. not (is_assignable p t constant (n + 1) b a)) (λ a b. IsAssignable p t (HasConstantForm p t) (n + 1) b a → ⊥)
          (not_assignable_tells (n + 1)) (type_of_declared p t m) (first p type_of n) (has_type_finds p t m) (first_finds p t type_of typed n)))))

      abbrev Returns : ℕ → Type 0
      Returns n = (label p n ≡ is.Return) × ((c : ℕ) × Innermost p n c × ((m : ℕ) × (Round p n c m × Member n m)))

      returns_tell : (n : ℕ) → Decides (plain.return_does_not_fit p t constant type_of n) (Returns n)
      returns_tell n = both (return_label_tells (label p n))
          (found_tells (λ c. Innermost p n c) _ (λ c. (m : ℕ) × (Round p n c m × Member n m))
          (λ c. some (λ m. is_member_round p n c m && plain.does_not_fit_member p t constant type_of n m) (λ m. Round p n c m × Member n m)
          (λ m. both (round_tells p n c m) (member_tells n m)) (length p) (λ m h. member_row p c m h.0.0.0)) (innermost p n) (innermost_finds p n))

      in_member : (n c m : ℕ) → Innermost p n c → Round p n c m → InMember p n c m
      in_member n c m i h = record { innermost = i; inside = h.0.0; from = h.0.1; before = h.1 }

      member_out : (n c m : ℕ) → label p n ≡ is.Return → InMember p n c m → Member n m → ReturnDoesNotFit p t n
      member_out n c m at i (inl h) = ReturnDoesNotFit.in_initializer at i h
      member_out n c m at i (inr (inl h)) = ReturnDoesNotFit.with_value at i h.0 h.1
      member_out n c m at i (inr (inr (g, inl h))) = ReturnDoesNotFit.without_value at i g h
      member_out n c m at i (inr (inr (g, inr h))) = ReturnDoesNotFit.with_other_value at i g h.1 h.2.1 h.2.2

      returns_out : (n : ℕ) → Returns n → ReturnDoesNotFit p t n
      returns_out n h = let k = h.1.2 in member_out n h.1.0 k.0 h.0 (in_member n h.1.0 k.0 h.1.1 k.1.0) k.1.1

      member_in : (n c m : ℕ) → label p n ≡ is.Return → InMember p n c m → Member n m → Returns n
      member_in n c m at i h = (at, (c, i.innermost, (m, (((i.inside, i.from), i.before), h))))

      returns_in : (n : ℕ) → ReturnDoesNotFit p t n → Returns n
      returns_in n (ReturnDoesNotFit.in_initializer {c = c} {m = m} at i h) = member_in n c m at i (inl h)
      returns_in n (ReturnDoesNotFit.with_value {c = c} {m = m} at i g h) = member_in n c m at i (inr (inl (g, h)))
      returns_in n (ReturnDoesNotFit.without_value {c = c} {m = m} at i g h) = member_in n c m at i (inr (inr (g, inl h)))
      returns_in n (ReturnDoesNotFit.with_other_value {c = c} {m = m} {a = a} {b = b} at i g h k out) = member_in n c m at i (inr (inr (g, inr (a, h, (b, k, out)))))

      pub return_tells : (n : ℕ) → Decides (plain.return_does_not_fit p t constant type_of n) (ReturnDoesNotFit p t n)
      return_tells n = like (returns_tell n) (returns_out n) (returns_in n)
