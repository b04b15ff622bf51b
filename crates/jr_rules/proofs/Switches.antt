-- The tests of switches and of jumps tell what they are to tell.
use Rattle.std.proofs.Common.{◌≡◌, ◌⊎◌, refl, sym, ap, subst, inl, inr, ℕ, ◌+◌, ◌<◌, Bool, true, false, not, ◌&&◌, length, nat_lt, Option, Some, option_and_then, Decides}
use Rattle.std.proofs.lemmas.Bool.{false≢true}
use Rattle.std.proofs.lemmas.Bool.Decides.{Decides-eqb, Decides-ltb, Decides-int_eq}
use Rattle.std.proofs.lemmas.Slice.Eq.{bytes_eq-Decides}
use Rattle.jr_base.specs.declared.constant.Const.{Const}
use Rattle.jr_base.specs.declared.constant.Const.TheVariants as c
use Rattle.jr_tree.specs.declared.label.Label.{Label}
use Rattle.jr_tree.specs.declared.label.Label.TheVariants as is
use Rattle.jr_tree.specs.Rows.{Rows, label, parent, end}
use Rattle.jr_defs.specs.declared.referent.Element.{Element}
use Rattle.jr_defs.specs.declared.referent.RowType.{RowType}
use Rattle.jr_defs.specs.declared.referent.Referent.TheVariants.{Declared}
use Rattle.jr_defs.specs.Referents.{Table}
use Rattle.jr_defs.specs.Types.{plain}
use Rattle.jr_defs.specs.Operators.{assigned_to}
use Rattle.jr_defs.specs.Constants.{HasConstantForm, ConstantOf, Constant}
use Rattle.jr_defs.specs.Conversions.{IsAssignable}
use Rattle.jr_plain.specs.Search.{Finds}
use Rattle.jr_plain.specs.Conversions.{Constants, of_two, plain_of, is_assignable}
use Rattle.jr_plain.specs.Overloads.{Types}
use Rattle.jr_plain.specs.Typing.{IsTypable, first}
use Rattle.jr_plain.proofs.Tests.{always, never, both, either, opposite, like}
use Rattle.jr_plain.proofs.Searches.{any, some}
use Rattle.jr_plain.proofs.Bounds.{bounded}
use Rattle.jr_plain.proofs.Modified.{found_tells}
use Rattle.jr_plain.proofs.Converted.{plain_finds, assignable_tells}
use Rattle.jr_plain.proofs.Finding.{like_finds, guard_finds, then_finds, two_finds}
use Rattle.jr_rules.specs.Typed.{Typed, FirstOf, IsIntLike}
use Rattle.jr_rules.specs.Statements.{switch_of, CaseValue, SwitchDoesNotFit, IsLoop, IsLoopOrSwitch, IsRound, LabelsLoop, HasNoTarget}
use Rattle.jr_rules.specs.TypedTests.{is_int_like, declared_row, both_found}
use Rattle.jr_rules.specs.StatementTests as tested
use Rattle.jr_rules.proofs.Kids.{declared_finds, both_found_tells, int_like_tells, first_finds}
use Rattle.jr_rules.proofs.Operands.{none_tells}

-- ---- labels and values

switch_tells : (l : Label) → Decides (tested.is_switch l) (l ≡ is.Switch)
switch_tells is.Switch = (λ h. refl, λ e. refl)
switch_tells _ = (λ h. absurd (false≢true h), λ e. absurd (cc))

case_tells : (l : Label) → Decides (tested.is_case l) (l ≡ is.Case)
case_tells is.Case = (λ h. refl, λ e. refl)
case_tells _ = (λ h. absurd (false≢true h), λ e. absurd (cc))

default_tells : (l : Label) → Decides (tested.is_default l) (l ≡ is.Default)
default_tells is.Default = (λ h. refl, λ e. refl)
default_tells _ = (λ h. absurd (false≢true h), λ e. absurd (cc))

value_tells : (v w : Const) → Decides (tested.same_value v w) (v ≡ w)
value_tells (c.Bool false) (c.Bool false) = (λ h. refl, λ e. refl)
value_tells (c.Bool true) (c.Bool true) = (λ h. refl, λ e. refl)
value_tells (c.Byte a) (c.Byte b) = like (Decides-int_eq a b) (λ e. ap c.Byte e) (λ e. cc)
value_tells (c.Short a) (c.Short b) = like (Decides-int_eq a b) (λ e. ap c.Short e) (λ e. cc)
value_tells (c.Char a) (c.Char b) = like (Decides-eqb a b) (λ e. ap c.Char e) (λ e. cc)
value_tells (c.Int a) (c.Int b) = like (Decides-int_eq a b) (λ e. ap c.Int e) (λ e. cc)
value_tells (c.Long a) (c.Long b) = like (Decides-int_eq a b) (λ e. ap c.Long e) (λ e. cc)
value_tells (c.Str a) (c.Str b) = like (bytes_eq-Decides a b) (λ e. ap c.Str e) (λ e. cc)
value_tells _ _ = (λ h. absurd (false≢true h), λ e. absurd (cc))

loop_tells : (l : Label) → Decides (tested.is_loop l) (IsLoop l)
loop_tells is.Do = always
loop_tells is.While = always
loop_tells (is.For has_first has_condition) = always
loop_tells _ = never

loop_or_switch_tells : (l : Label) → Decides (tested.is_loop_or_switch l) (IsLoopOrSwitch l)
loop_or_switch_tells is.Switch = always
loop_or_switch_tells is.Do = always
loop_or_switch_tells is.While = always
loop_or_switch_tells (is.For has_first has_condition) = always
loop_or_switch_tells _ = never

break_tells : (l : Label) → Decides (tested.is_break l) (l ≡ is.Break false)
break_tells (is.Break false) = (λ h. refl, λ e. refl)
break_tells _ = (λ h. absurd (false≢true h), λ e. absurd (cc))

continue_tells : (with_label : Bool) (l : Label) → Decides (tested.is_continue with_label l) (l ≡ is.Continue with_label)
continue_tells true (is.Continue true) = (λ h. refl, λ e. refl)
continue_tells false (is.Continue false) = (λ h. refl, λ e. refl)
continue_tells true _ = (λ h. absurd (false≢true h), λ e. absurd (cc))
continue_tells false _ = (λ h. absurd (false≢true h), λ e. absurd (cc))

-- ---- switches

same_switch_tells : (p : Rows) (m n : ℕ) → Decides (tested.is_same_switch p m n) (switch_of p m ≡ switch_of p n)
same_switch_tells p m n = Decides-eqb (switch_of p m) (switch_of p n)

module _ (p : Rows) (t : Table) (typable : IsTypable p t) (type_of : Types) (typed : (n : ℕ) → Finds (type_of n) (λ a. Typed p t n a))
    (constant : Constants) (known : (n : ℕ) → Finds (constant n) (λ v. ConstantOf p t (HasConstantForm p t) n v)) where
  -- the element type of the switch of a case
  abbrev SwitchElement : ℕ → Element → Type 0
  SwitchElement n e = (a : RowType) × FirstOf p t (switch_of p n) a × (a ≡ plain e)

  switch_element_finds : (n : ℕ) → Finds (option_and_then plain_of (first p type_of (switch_of p n))) (λ e. SwitchElement n e)
  switch_element_finds n = then_finds plain_of (first p type_of (switch_of p n)) (first_finds p t type_of typed (switch_of p n)) (λ a. plain_finds a)

  assigned_finds : (e : Element) (v : Const) → Finds (assigned_to e v) (λ w. assigned_to e v ≡ Some w)
  assigned_finds e v w = (λ h. h, λ h. h)

  case_value_finds : (n : ℕ) → Finds (tested.case_value p constant type_of n) (λ w. CaseValue p t n w)
  case_value_finds n = like_finds (tested.case_value p constant type_of n)
      (guard_finds (tested.is_case (label p n)) (of_two assigned_to (option_and_then plain_of (first p type_of (switch_of p n))) (constant (n + 1))) (case_tells (label p n))
      (two_finds (λ e v w. assigned_to e v ≡ Some w) assigned_to assigned_finds (option_and_then plain_of (first p type_of (switch_of p n))) (constant (n + 1)) (switch_element_finds n) (known (n + 1))))
      (λ w h. record { case = h.0; element = h.1.0; type = subst (λ a. FirstOf p t (switch_of p n) a) h.1.2.2 h.1.2.1; value = h.1.1; constant = h.1.3; fits = h.1.4 })
      (λ w h. (h.case, (h.element, h.value, (plain h.element, h.type, refl), h.constant, h.fits)))

  abbrev Repeats : ℕ → ℕ → Type 0
  Repeats n m = (switch_of p m ≡ switch_of p n) × ((v : Const) × CaseValue p t m v × ((w : Const) × CaseValue p t n w × (v ≡ w)))

  repeats_tell : (n m : ℕ) → Decides (tested.is_same_switch p m n && both_found (tested.case_value p constant type_of m) (tested.case_value p constant type_of n) (λ v w. tested.same_value v w)) (Repeats n m)
  repeats_tell n m = both (same_switch_tells p m n) (both_found_tells (λ v. CaseValue p t m v) (λ w. CaseValue p t n w) (λ v w. tested.same_value v w) (λ v w. v ≡ w) value_tells
      (tested.case_value p constant type_of m) (tested.case_value p constant type_of n) (case_value_finds m) (case_value_finds n))

  repeated_tells : (n : ℕ) → Decides (tested.is_repeated p constant type_of n) ((m : ℕ) × (m < n) × Repeats n m)
  repeated_tells n = any (λ m. tested.is_same_switch p m n && both_found (tested.case_value p constant type_of m) (tested.case_value p constant type_of n) (λ v w. tested.same_value v w)) (Repeats n) (repeats_tell n) n

  abbrev Defaults : ℕ → Type 0
  Defaults n = (label p n ≡ is.Default) × ((m : ℕ) × (m < n) × ((switch_of p m ≡ switch_of p n) × (label p m ≡ is.Default)))

  defaults_tell : (n : ℕ) → Decides (tested.is_second_default p n) (Defaults n)
  defaults_tell n = both (default_tells (label p n)) (any (λ m. tested.is_same_switch p m n && tested.is_default (label p m)) (λ m. (switch_of p m ≡ switch_of p n) × (label p m ≡ is.Default))
      (λ m. both (same_switch_tells p m n) (default_tells (label p m))) n)

  abbrev OtherCase : ℕ → Type 0
  OtherCase n = (a : RowType) × FirstOf p t (switch_of p n) a × ((b : RowType) × FirstOf p t n b × (IsAssignable p t (HasConstantForm p t) (n + 1) b a → ⊥))

  abbrev Switches : ℕ → Type 0
  Switches n = ((label p n ≡ is.Switch) × ((a : RowType) × FirstOf p t n a × (IsIntLike a → ⊥)))
      ⊎ (((label p n ≡ is.Case) × (((v : Const) → Constant p t (n + 1) v → ⊥) ⊎ OtherCase n)) ⊎ (((m : ℕ) × (m < n) × Repeats n m) ⊎ Defaults n))

  switches_tell : (n : ℕ) → Decides (tested.switch_does_not_fit p t constant type_of n) (Switches n)
  switches_tell n = either
      (both (switch_tells (label p n)) (found_tells (λ a. FirstOf p t n a) (λ a. not (is_int_like a)) (λ a. IsIntLike a → ⊥) (λ a. opposite (int_like_tells a)) (first p type_of n) (first_finds p t type_of typed n)))
      (either (both (case_tells (label p n)) (either (none_tells (λ v. Constant p t (n + 1) v) (constant (n + 1)) (known (n + 1)))
      (both_found_tells (λ a. FirstOf p t (switch_of p n) a) (λ b. FirstOf p t n b) (λ a b. not (is_assignable p t constant (n + 1) b a)) (λ a b. IsAssignable p t (HasConstantForm p t) (n + 1) b a → ⊥)
      (λ a b. opposite (assignable_tells p t typable.headed (HasConstantForm p t) constant (n + 1) (known (n + 1)) b a)) (first p type_of (switch_of p n)) (first p type_of n)
      (first_finds p t type_of typed (switch_of p n)) (first_finds p t type_of typed n))))
      (either (repeated_tells n) (defaults_tell n)))

  switches_out : (n : ℕ) → Switches n → SwitchDoesNotFit p t n
  switches_out n (inl h) = SwitchDoesNotFit.of_type h.0 h.1.1 h.1.2
  switches_out n (inr (inl (at, inl h))) = SwitchDoesNotFit.not_constant at h
  switches_out n (inr (inl (at, inr h))) = SwitchDoesNotFit.not_assignable at h.1 h.2.1 h.2.2
  switches_out n (inr (inr (inl h))) = let k = h.2.1 in SwitchDoesNotFit.repeated k.1 (subst (λ v. CaseValue p t n v) (sym k.2.2) k.2.1) h.2.0 h.1
  switches_out n (inr (inr (inr h))) = SwitchDoesNotFit.two_defaults h.1.2.1 h.0 h.1.2.0 h.1.1

  switches_in : (n : ℕ) → SwitchDoesNotFit p t n → Switches n
  switches_in n (SwitchDoesNotFit.of_type {a = a} at h out) = inl (at, (a, h, out))
  switches_in n (SwitchDoesNotFit.not_constant at h) = inr (inl (at, inl h))
  switches_in n (SwitchDoesNotFit.not_assignable {a = a} {b = b} at h k out) = inr (inl (at, inr (a, h, (b, k, out))))
  switches_in n (SwitchDoesNotFit.repeated {m = m} {v = v} h k e lt) = inr (inr (inl (m, lt, (e, (v, h, (v, k, refl))))))
  switches_in n (SwitchDoesNotFit.two_defaults {m = m} h k e lt) = inr (inr (inr (k, (m, lt, (e, h)))))

  pub switch_does_not_fit_tells : (n : ℕ) → Decides (tested.switch_does_not_fit p t constant type_of n) (SwitchDoesNotFit p t n)
  switch_does_not_fit_tells n = like (switches_tell n) (switches_out n) (switches_in n)

-- ---- jumps

inside_tells : (p : Rows) (P : Label → Type 0) (test : Label → Bool) → ((l : Label) → Decides (test l) (P l)) → (P is.Skip → ⊥) → (o : ℕ) → Decides (tested.is_inside p test o) ((s : ℕ) × IsRound p P o s)
inside_tells p P test tells never_skip o = like
    (some (λ s. test (label p s) && nat_lt s o && nat_lt o (end p s)) (λ s. (P (label p s) × (s < o)) × (o < end p s))
    (λ s. both (both (tells (label p s)) (Decides-ltb s o)) (Decides-ltb o (end p s))) (length p) (λ s h. bounded P never_skip p s h.0.0))
    (λ h. (h.0, record { statement = h.1.0.0; after = h.1.0.1; before = h.1.1 })) (λ h. let k = h.1 in (h.0, ((k.statement, k.after), k.before)))

labels_loop_tells : (p : Rows) (d : ℕ) → Decides (tested.labels_loop p d) (LabelsLoop p d)
labels_loop_tells p d = like (both (Decides-eqb (parent p (d + 1)) d) (loop_tells (label p (d + 1)))) (λ h. record { inside = h.0; loop = h.1 }) (λ h. (h.inside, h.loop))

module _ (p : Rows) (t : Table) where
  abbrev Jumps : ℕ → Type 0
  Jumps n = ((label p n ≡ is.Break false) × ((s : ℕ) × IsRound p IsLoopOrSwitch n s → ⊥))
      ⊎ (((label p n ≡ is.Continue false) × ((s : ℕ) × IsRound p IsLoop n s → ⊥))
      ⊎ ((label p n ≡ is.Continue true) × ((d : ℕ) × ((level : Option ℕ) × (t n ≡ Declared d level)) × (LabelsLoop p d → ⊥))))

  jumps_tell : (n : ℕ) → Decides (tested.has_no_target p t n) (Jumps n)
  jumps_tell n = either (both (break_tells (label p n)) (opposite (inside_tells p IsLoopOrSwitch tested.is_loop_or_switch loop_or_switch_tells (λ h. h) n)))
      (either (both (continue_tells false (label p n)) (opposite (inside_tells p IsLoop tested.is_loop loop_tells (λ h. h) n)))
      (both (continue_tells true (label p n)) (found_tells (λ d. (level : Option ℕ) × (t n ≡ Declared d level)) (λ d. not (tested.labels_loop p d)) (λ d. LabelsLoop p d → ⊥)
      (λ d. opposite (labels_loop_tells p d)) (declared_row (t n)) (declared_finds (t n)))))

  jumps_out : (n : ℕ) → Jumps n → HasNoTarget p t n
  jumps_out n (inl h) = HasNoTarget.of_break h.0 (λ s k. h.1 (s, k))
  jumps_out n (inr (inl h)) = HasNoTarget.of_continue h.0 (λ s k. h.1 (s, k))
  jumps_out n (inr (inr h)) = HasNoTarget.of_label h.0 h.1.1.1 h.1.2

  jumps_in : (n : ℕ) → HasNoTarget p t n → Jumps n
  jumps_in n (HasNoTarget.of_break at out) = inl (at, λ k. out k.0 k.1)
  jumps_in n (HasNoTarget.of_continue at out) = inr (inl (at, λ k. out k.0 k.1))
  jumps_in n (HasNoTarget.of_label {d = d} {level = level} at e out) = inr (inr (at, (d, (level, e), out)))

  pub no_target_tells : (n : ℕ) → Decides (tested.has_no_target p t n) (HasNoTarget p t n)
  no_target_tells n = like (jumps_tell n) (jumps_out n) (jumps_in n)
