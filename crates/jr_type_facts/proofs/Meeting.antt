-- Labels of switches that were met: values of one type by their numbers, and defaults.
use Rattle.std.proofs.Common.{◌≡◌, ◌⊎◌, refl, sym, ◌∙◌, ap, ap₂, add-one, subst, inl, inr, ⊎_elim, arith, ℕ, zero, suc, ◌+◌, ◌<◌, ◌≤◌, Bool, true, false, not, cond, ◌&&◌, ◌||◌, List, [], ◌∷◌, ◌++◌, length, get_or, nat_eq, Option, Some, None}
use Rattle.std.specs.Prelude.{ℤ, pos, negsuc, is_some, option_and_then}
use Rattle.std.specs.HashMap.{HashMap, get}
use Rattle.std.specs.Map.{lookup}
use Rattle.std.specs.Ordering.{int_eq}
use Rattle.std.proofs.lemmas.Bool.{cases_eq, cases_lt}
use Rattle.std.proofs.lemmas.Bool.Decides.{Decides-eqb, Decides-int_eq}
use Rattle.std.proofs.lemmas.List.{get_or_past}
use Rattle.std.proofs.lemmas.Option.{none-some, same_Some}
use Rattle.jr_base.specs.declared.constant.Const.{Const}
use Rattle.jr_base.specs.declared.constant.Const.TheVariants as c
use Rattle.jr_tree.specs.Rows.{Rows, label, parent}
use Rattle.jr_tree.specs.Tree.{IsTree}
use Rattle.jr_defs.specs.declared.referent.Element.{Element}
use Rattle.jr_defs.specs.declared.referent.Element.TheVariants as element
use Rattle.jr_defs.specs.Operators.{as_int, as_long, number_to, then_number, cast_to, assigned_to, if_fits, fits}
use Rattle.jr_plain.specs.Search.{any_below}
use Rattle.jr_plain.specs.Conversions.{Constants, of_two, plain_of}
use Rattle.jr_plain.specs.Overloads.{Types}
use Rattle.jr_plain.specs.Typing.{first}
use Rattle.jr_plain.proofs.Bounds.{label_past}
use Rattle.jr_plain.proofs.Tests.{either, itself, like}
use Rattle.jr_places.specs.Tabulated.{tabulated}
use Rattle.jr_places.proofs.Tables.{length-tabulated, tabulated_at}
use Rattle.jr_constants.specs.declared.value.Value.{Value}
use Rattle.jr_constants.specs.declared.value.Value.TheVariants as v
use Rattle.jr_constants.specs.Values.{seen}
use Rattle.jr_type_facts.specs.declared.repeated.Met as code
use Rattle.jr_places.specs.declared.stamps.Stamps.{Stamps}
use Rattle.jr_places.specs.Stamps.{is_stamped, IsStamping, IsEmptied, AddsStamp}
use Rattle.jr_lookup.proofs.Instancing.{same_tests}
use Rattle.jr_rules.specs.Statements.{switch_of}
use Rattle.jr_rules.specs.StatementTests.{is_case, is_default, same_value, case_value, is_same_switch, is_repeated, is_second_default}
use Rattle.jr_rules.specs.TypedTests.{both_found}
use Rattle.jr_type_facts.specs.Cases.{bit, number_of, number_in, label_number, is_met, HasMet, PutsNumber, was_number, AreRepeated, case_number, is_number, has_number, is_default_of, same_key}

-- ---- constants of one type

abbrev IsOfElement : Element → Const → Type 0
IsOfElement element.Boolean (c.Bool b) = Unit {0}
IsOfElement element.Byte (c.Byte z) = Unit {0}
IsOfElement element.Short (c.Short z) = Unit {0}
IsOfElement element.Char (c.Char n) = Unit {0}
IsOfElement element.Int (c.Int z) = Unit {0}
IsOfElement element.Long (c.Long z) = Unit {0}
IsOfElement _ _ = ⊥

number_shape : (e : Element) (z : ℤ) (w : Const) → number_to e z ≡ Some w → IsOfElement e w
number_shape element.Byte z w h = subst (IsOfElement element.Byte) (same_Some _ w h) tt
number_shape element.Short z w h = subst (IsOfElement element.Short) (same_Some _ w h) tt
number_shape element.Char z w h = subst (IsOfElement element.Char) (same_Some _ w h) tt
number_shape element.Int z w h = subst (IsOfElement element.Int) (same_Some _ w h) tt
number_shape element.Long z w h = subst (IsOfElement element.Long) (same_Some _ w h) tt
number_shape _ z w h = absurd (none-some w h)

then_shape : (e : Element) (o : Option ℤ) (f : ℤ → Option Const) (w : Const) → ((z : ℤ) → f z ≡ Some w → IsOfElement e w) → then_number o f ≡ Some w → IsOfElement e w
then_shape e None f w told h = absurd (none-some w h)
then_shape e (Some z) f w told h = told z h

if_shape : (e : Element) (z : ℤ) (w : Const) → if_fits e z ≡ Some w → IsOfElement e w
if_shape e z w h = by (fits e z) h
  where
    by : (b : Bool) → cond b (number_to e z) None ≡ Some w → IsOfElement e w
    by true h = number_shape e z w h
    by false h = absurd (none-some w h)

bool_shape : (x w : Const) → cast_to element.Boolean x ≡ Some w → IsOfElement element.Boolean w
bool_shape (c.Bool b) w h = subst (IsOfElement element.Boolean) (same_Some (c.Bool b) w h) tt
bool_shape _ w h = absurd (none-some w h)

assigned_shape : (e : Element) (x w : Const) → assigned_to e x ≡ Some w → IsOfElement e w
assigned_shape element.Boolean x w h = bool_shape x w h
assigned_shape element.Long x w h = then_shape element.Long (as_long x) (number_to element.Long) w (λ z k. number_shape element.Long z w k) h
assigned_shape element.Int x w h = then_shape element.Int (as_int x) (number_to element.Int) w (λ z k. number_shape element.Int z w k) h
assigned_shape element.Byte x w h = then_shape element.Byte (as_int x) (if_fits element.Byte) w (λ z k. if_shape element.Byte z w k) h
assigned_shape element.Short x w h = then_shape element.Short (as_int x) (if_fits element.Short) w (λ z k. if_shape element.Short z w k) h
assigned_shape element.Char x w h = then_shape element.Char (as_int x) (if_fits element.Char) w (λ z k. if_shape element.Char z w k) h
assigned_shape element.Null x w h = then_shape element.Null (as_int x) (if_fits element.Null) w (λ z k. if_shape element.Null z w k) h
assigned_shape element.Void x w h = then_shape element.Void (as_int x) (if_fits element.Void) w (λ z k. if_shape element.Void z w k) h
assigned_shape (element.Class s) x w h = then_shape (element.Class s) (as_int x) (if_fits (element.Class s)) w (λ z k. if_shape (element.Class s) z w k) h

-- they are one where their numbers are
abbrev AreSame : Element → Const → Const → Type 0
AreSame e x w = (z : ℤ) → IsOfElement e x → IsOfElement e w → number_of w ≡ Some z → same_value x w ≡ is_number (number_of x) z

number_same : (a b : ℕ) → int_eq (pos a) (pos b) ≡ nat_eq a b
number_same a b = same_tests _ _ (pos a ≡ pos b) (Decides-int_eq (pos a) (pos b)) (like (Decides-eqb a b) (λ e. ap pos e) (λ e. pos_same e))
  where
    to_nat : ℤ → ℕ
    to_nat (pos n) = n
    to_nat (negsuc n) = n

    pos_same : pos a ≡ pos b → a ≡ b
    pos_same e = ap to_nat e

same_byte : (x w : Const) → AreSame element.Byte x w
same_byte (c.Byte a) (c.Byte b) z h k is = ap (int_eq a) (same_Some b z is)
same_byte (c.Byte a) _ z h k is = absurd k
same_byte _ w z h k is = absurd h

same_short : (x w : Const) → AreSame element.Short x w
same_short (c.Short a) (c.Short b) z h k is = ap (int_eq a) (same_Some b z is)
same_short (c.Short a) _ z h k is = absurd k
same_short _ w z h k is = absurd h

same_char : (x w : Const) → AreSame element.Char x w
same_char (c.Char a) (c.Char b) z h k is = sym (number_same a b) ∙ ap (int_eq (pos a)) (same_Some (pos b) z is)
same_char (c.Char a) _ z h k is = absurd k
same_char _ w z h k is = absurd h

same_int : (x w : Const) → AreSame element.Int x w
same_int (c.Int a) (c.Int b) z h k is = ap (int_eq a) (same_Some b z is)
same_int (c.Int a) _ z h k is = absurd k
same_int _ w z h k is = absurd h

same_long : (x w : Const) → AreSame element.Long x w
same_long (c.Long a) (c.Long b) z h k is = ap (int_eq a) (same_Some b z is)
same_long (c.Long a) _ z h k is = absurd k
same_long _ w z h k is = absurd h

same_bool : (x w : Const) → AreSame element.Boolean x w
same_bool (c.Bool true) (c.Bool true) z h k is = ap (int_eq (pos 1)) (same_Some (pos 1) z is)
same_bool (c.Bool true) (c.Bool false) z h k is = ap (int_eq (pos 1)) (same_Some (pos 0) z is)
same_bool (c.Bool false) (c.Bool true) z h k is = ap (int_eq (pos 0)) (same_Some (pos 1) z is)
same_bool (c.Bool false) (c.Bool false) z h k is = ap (int_eq (pos 0)) (same_Some (pos 0) z is)
same_bool (c.Bool b) _ z h k is = absurd k
same_bool _ w z h k is = absurd h

same_told : (e : Element) (x w : Const) → AreSame e x w
same_told element.Boolean x w = same_bool x w
same_told element.Byte x w = same_byte x w
same_told element.Short x w = same_short x w
same_told element.Char x w = same_char x w
same_told element.Int x w = same_int x w
same_told element.Long x w = same_long x w
same_told _ x w = λ z h k is. absurd h

number_there : (e : Element) (w : Const) → IsOfElement e w → number_of w ≡ None → ⊥
number_there element.Boolean (c.Bool b) h none = none-some (bit b) (sym none)
number_there element.Boolean _ h none = h
number_there element.Byte (c.Byte z) h none = none-some z (sym none)
number_there element.Byte _ h none = h
number_there element.Short (c.Short z) h none = none-some z (sym none)
number_there element.Short _ h none = h
number_there element.Char (c.Char n) h none = none-some (pos n) (sym none)
number_there element.Char _ h none = h
number_there element.Int (c.Int z) h none = none-some z (sym none)
number_there element.Int _ h none = h
number_there element.Long (c.Long z) h none = none-some z (sym none)
number_there element.Long _ h none = h
number_there _ w h none = h

-- ---- labels `case`

any_same : (f g : ℕ → Bool) → ((m : ℕ) → f m ≡ g m) → (n : ℕ) → any_below n f ≡ any_below n g
any_same f g same zero = refl
any_same f g same (suc n) = ap₂ (λ a b. a || b) (any_same f g same n) (same n)

any_none : (f : ℕ → Bool) → ((m : ℕ) → f m ≡ false) → (n : ℕ) → any_below n f ≡ false
any_none f none zero = refl
any_none f none (suc n) = ap₂ (λ a b. a || b) (any_none f none n) (none n)

module _ (p : Rows) (constant : Constants) (types : Types) where
  abbrev element_at : ℕ → Option Element
  element_at s = option_and_then plain_of (first p types s)

  -- the value is of the type of its switch
  record IsTyped (n : ℕ) (w : Const) : Type 0 where
    pub element : Element
    pub of_switch : element_at (switch_of p n) ≡ Some element
    pub shape : IsOfElement element w

  value_typed : (n : ℕ) (w : Const) → case_value p constant types n ≡ Some w → IsTyped n w
  value_typed n w h = by (is_case (label p n)) h
    where
      of_both : (o : Option Element) (x : Option Const) → element_at (switch_of p n) ≡ o → of_two assigned_to o x ≡ Some w → IsTyped n w
      of_both (Some e) (Some x) at k = record { element = e; of_switch = at; shape = assigned_shape e x w k }
      of_both (Some e) None at k = absurd (none-some w k)
      of_both None x at k = absurd (none-some w k)

      by : (b : Bool) → cond b (of_two assigned_to (element_at (switch_of p n)) (constant (n + 1))) None ≡ Some w → IsTyped n w
      by true k = of_both (element_at (switch_of p n)) (constant (n + 1)) refl k
      by false k = absurd (none-some w k)

  module _ (n : ℕ) (w : Const) (z : ℤ) (at : case_value p constant types n ≡ Some w) (is : number_of w ≡ Some z) where
    typed : IsTyped n w
    typed = value_typed n w at

    both_at : (m : ℕ) (o : Option Const) → case_value p constant types m ≡ o → switch_of p m ≡ switch_of p n → both_found o (Some w) same_value ≡ is_number (option_and_then number_of o) z
    both_at m None here same = refl
    both_at m (Some x) here same = let other = value_typed m x here in
        same_told other.element x w z other.shape (subst (λ e. IsOfElement e w) (same_Some _ other.element (sym typed.of_switch ∙ ap element_at (sym same) ∙ other.of_switch)) typed.shape) is

    same_label : (m : ℕ) → (is_same_switch p m n && both_found (case_value p constant types m) (case_value p constant types n) same_value) ≡ has_number p constant types (switch_of p n) z m
    same_label m = by (nat_eq (switch_of p m) (switch_of p n)) refl
      where
        by : (b : Bool) → nat_eq (switch_of p m) (switch_of p n) ≡ b → (b && both_found (case_value p constant types m) (case_value p constant types n) same_value) ≡ (b && is_number (case_number p constant types m) z)
        by true e = ap (λ o. both_found (case_value p constant types m) o same_value) at ∙ both_at m (case_value p constant types m) refl ((Decides-eqb (switch_of p m) (switch_of p n)).0 e)
        by false e = refl

    repeated_at : is_repeated p constant types n ≡ any_below n (has_number p constant types (switch_of p n) z)
    repeated_at = any_same _ _ same_label n

  no_value : (o : Option Const) → both_found o None same_value ≡ false
  no_value None = refl
  no_value (Some x) = refl

  and_none : (b d : Bool) → d ≡ false → (b && d) ≡ false
  and_none true d h = h
  and_none false d h = refl

  not_repeated : (n : ℕ) → case_value p constant types n ≡ None → is_repeated p constant types n ≡ false
  not_repeated n none = any_none _ (λ m. and_none (is_same_switch p m n) _ (ap (λ o. both_found (case_value p constant types m) o same_value) none ∙ no_value (case_value p constant types m))) n

  -- a label is repeated, where one of its switch with its number stands before it
  pub repeated_some : (n : ℕ) (z : ℤ) → case_number p constant types n ≡ Some z → is_repeated p constant types n ≡ any_below n (has_number p constant types (switch_of p n) z)
  repeated_some n z is = by (case_value p constant types n) refl is
    where
      by : (o : Option Const) → case_value p constant types n ≡ o → option_and_then number_of o ≡ Some z → is_repeated p constant types n ≡ any_below n (has_number p constant types (switch_of p n) z)
      by None at k = absurd (none-some z k)
      by (Some w) at k = repeated_at n w z at k

  pub repeated_none : (n : ℕ) → case_number p constant types n ≡ None → false ≡ is_repeated p constant types n
  repeated_none n none = by (case_value p constant types n) refl none
    where
      by : (o : Option Const) → case_value p constant types n ≡ o → option_and_then number_of o ≡ None → false ≡ is_repeated p constant types n
      by None at k = sym (not_repeated n at)
      by (Some w) at k = let typed = value_typed n w at in absurd (number_there typed.element w typed.shape k)

  -- ---- the values that were met

  or_some : {A : Type 0} (b : Bool) (x : A) (o : Option A) → is_some (cond b (Some x) o) ≡ (is_some o || b)
  or_some true x None = refl
  or_some true x (Some y) = refl
  or_some false x None = refl
  or_some false x (Some y) = refl

  or_none : (a b : Bool) → b ≡ false → a ≡ (a || b)
  or_none true b h = refl
  or_none false b h = sym h

  pub values_more : {S : Type 0} (n : ℕ) (z : ℤ) (last later : HashMap (ℕ × ℤ) ℕ S) (at : ℕ) → case_number p constant types n ≡ Some z
      → ((s : ℕ) (y : ℤ) → is_some (get same_key last (s, y)) ≡ any_below n (has_number p constant types s y))
      → ((q : ℕ × ℤ) → get same_key later q ≡ cond (same_key (switch_of p n, z) q) (Some at) (get same_key last q))
      → (s : ℕ) (y : ℤ) → is_some (get same_key later (s, y)) ≡ any_below (n + 1) (has_number p constant types s y)
  values_more n z last later at is before updates s y = ap is_some (updates (s, y)) ∙ or_some (same_key (switch_of p n, z) (s, y)) at (get same_key last (s, y))
      ∙ ap₂ (λ a o. a || (nat_eq (switch_of p n) s && is_number o y)) (before s y) (sym is) ∙ ap (λ k. any_below k (has_number p constant types s y)) (sym (add-one n))

  pub values_same : (n : ℕ) (s : ℕ) (y : ℤ) → case_number p constant types n ≡ None → any_below n (has_number p constant types s y) ≡ any_below (n + 1) (has_number p constant types s y)
  values_same n s y none = or_none _ _ (and_none (nat_eq (switch_of p n) s) _ (ap (λ o. is_number o y) none)) ∙ ap (λ k. any_below k (has_number p constant types s y)) (sym (add-one n))

-- ---- the defaults that were met

module _ (p : Rows) (n : ℕ) where
  and_turned : (a b : Bool) → (a && b) ≡ (b && a)
  and_turned true true = refl
  and_turned true false = refl
  and_turned false true = refl
  and_turned false false = refl

  pub defaults_same : (s : ℕ) → is_default (label p n) ≡ false → any_below n (is_default_of p s) ≡ any_below (n + 1) (is_default_of p s)
  defaults_same s none = by (any_below n (is_default_of p s)) (nat_eq (switch_of p n) s) (is_default (label p n)) none ∙ ap (λ k. any_below k (is_default_of p s)) (sym (add-one n))
    where
      by : (a b d : Bool) → d ≡ false → a ≡ (a || (b && d))
      by true b d h = refl
      by false true d h = sym h
      by false false d h = refl

  stamped_more : (old new : Stamps) (is_new : Bool) (bound : ℕ) → AddsStamp old new bound (switch_of p n) is_new → (s : ℕ) → s < bound → is_stamped new s ≡ (is_stamped old s || nat_eq (switch_of p n) s)
  stamped_more old new is_new bound h s lt = same_tests _ _ ((is_stamped old s ≡ true) ⊎ (switch_of p n ≡ s)) (like (itself (is_stamped new s)) (λ k. h.out s k) into) (either (itself (is_stamped old s)) (Decides-eqb (switch_of p n) s))
    where
      there : (b : Bool) → is_new ≡ b → switch_of p n < bound → is_stamped new (switch_of p n) ≡ true
      there true e less = (h.new_one e).1
      there false e less = h.kept (switch_of p n) (h.was less e)

      into : (is_stamped old s ≡ true) ⊎ (switch_of p n ≡ s) → is_stamped new s ≡ true
      into (inl k) = h.kept s k
      into (inr e) = subst (λ m. is_stamped new m ≡ true) e (there is_new refl (subst (λ m. m < bound) (sym e) lt))

  pub defaults_more : (old new : Stamps) (is_new : Bool) (bound : ℕ) → is_default (label p n) ≡ true → AddsStamp old new bound (switch_of p n) is_new → (s : ℕ) → s < bound
      → is_stamped old s ≡ any_below n (is_default_of p s) → is_stamped new s ≡ any_below (n + 1) (is_default_of p s)
  defaults_more old new is_new bound is h s lt before = stamped_more old new is_new bound h s lt
      ∙ ap₂ (λ a b. a || b) before (sym (and_turned (nat_eq (switch_of p n) s) (is_default (label p n)) ∙ ap (λ b. b && nat_eq (switch_of p n) s) is))
      ∙ ap (λ k. any_below k (is_default_of p s)) (sym (add-one n))

  pub default_not : is_default (label p n) ≡ false → false ≡ is_second_default p n
  default_not none = sym (ap (λ b. b && any_below n (λ m. is_same_switch p m n && is_default (label p m))) none)

  pub default_told : (old new : Stamps) (is_new : Bool) (bound : ℕ) → is_default (label p n) ≡ true → AddsStamp old new bound (switch_of p n) is_new → switch_of p n < bound
      → is_stamped old (switch_of p n) ≡ any_below n (is_default_of p (switch_of p n)) → not is_new ≡ is_second_default p n
  default_told old new is_new bound is h less before = by is_new refl ∙ before ∙ sym (ap (λ b. b && any_below n (λ m. is_same_switch p m n && is_default (label p m))) is)
    where
      by : (b : Bool) → is_new ≡ b → not b ≡ is_stamped old (switch_of p n)
      by true e = sym (h.new_one e).0
      by false e = sym (h.was less e)

-- ---- what the code has of one label

pub number_other : (value : Value) → ((b : Bool) → value ≡ v.Bool b → ⊥) → as_long (seen value) ≡ number_in value
number_other (v.Bool b) apart = absurd (apart b refl)
number_other (v.Byte z) apart = refl
number_other (v.Short z) apart = refl
number_other (v.Char n) apart = refl
number_other (v.Int z) apart = refl
number_other (v.Long z) apart = refl
number_other (v.Str n) apart = refl

module _ (p : Rows) (constant : Constants) (types : Types) (n : ℕ) where
  abbrev by_case : Bool → Option ℤ
  by_case b = option_and_then number_of (cond b (of_two assigned_to (option_and_then plain_of (first p types (switch_of p n))) (constant (n + 1))) None)

  pub number_if : is_case (label p n) ≡ true → label_number p constant types n ≡ case_number p constant types n
  number_if is = sym (ap by_case is)

  pub number_else : is_case (label p n) ≡ false → None ≡ case_number p constant types n
  number_else is = sym (ap by_case is)

  pub met_none : (met : code.Met) → case_number p constant types n ≡ None → HasMet p constant types n n met → HasMet p constant types (n + 1) n met
  met_none met none h = record { values = λ s z. h.values s z ∙ values_same p constant types n s z none; stamping = h.stamping; defaults = h.defaults }

  pub met_some : (z : ℤ) (s : ℕ) (old new : code.Met) (at : ℕ) → case_number p constant types n ≡ Some z → s ≡ switch_of p n → HasMet p constant types n n old
      → PutsNumber s z at old new → HasMet p constant types (n + 1) n new
  met_some z s old new at is same h puts = record {
    values = values_more p constant types n z old.values new.values at is h.values (λ q. puts.updates q ∙ ap (λ k. cond (same_key (k, z) q) (Some at) (get same_key old.values q)) same);
    stamping = subst (λ stamps. IsStamping stamps (length p)) puts.kept h.stamping;
    defaults = λ k lt. ap (λ stamps. is_stamped stamps k) (sym puts.kept) ∙ h.defaults k lt;
  }

  pub was_met : (z : ℤ) (s : ℕ) (old : code.Met) → case_number p constant types n ≡ Some z → s ≡ switch_of p n → HasMet p constant types n n old → was_number old s z ≡ is_repeated p constant types n
  was_met z s old is same h = h.values s z ∙ ap (λ k. any_below n (has_number p constant types k z)) same ∙ sym (repeated_some p constant types n z is)

module _ (p : Rows) (constant : Constants) (types : Types) (k n : ℕ) where
  pub unmet_default : (met : code.Met) → is_default (label p n) ≡ false → HasMet p constant types k n met → HasMet p constant types k (n + 1) met
  unmet_default met none h = record { values = h.values; stamping = h.stamping; defaults = λ s lt. h.defaults s lt ∙ defaults_same p n s none }

  pub met_default : (s : ℕ) (old : code.Met) (is_new : Bool) (new : code.Met) → s ≡ switch_of p n → is_default (label p n) ≡ true → HasMet p constant types k n old
      → AddsStamp old.defaults new.defaults (length p) s is_new → old.values ≡ new.values → HasMet p constant types k (n + 1) new
  met_default s old is_new new same is h adds kept = record {
    values = λ x z. ap (λ m. is_some (get same_key m (x, z))) (sym kept) ∙ h.values x z;
    stamping = adds.counted;
    defaults = λ x lt. defaults_more p n old.defaults new.defaults is_new (length p) is (subst (λ y. AddsStamp old.defaults new.defaults (length p) y is_new) same adds) x lt (h.defaults x lt);
  }

  -- the switch of a label is a row
  up_row : IsTree p → (m : ℕ) → m < length p → parent p m < length p
  up_row tree m lt = ⊎_elim (λ e. let root = ap (parent p) e ∙ tree.root in omega arith) (λ some. let up = tree.up m lt (omega arith) in omega arith) (cases_eq m 0)

  pub was_default : (s : ℕ) (old : code.Met) (is_new : Bool) (later : Stamps) → s ≡ switch_of p n → is_default (label p n) ≡ true → IsTree p → n < length p → HasMet p constant types k n old
      → AddsStamp old.defaults later (length p) s is_new → not is_new ≡ is_second_default p n
  was_default s old is_new later same is tree lt h adds = let less = up_row tree (parent p n) (up_row tree n lt) in
      default_told p n old.defaults later is_new (length p) is (subst (λ y. AddsStamp old.defaults later (length p) y is_new) same adds) less (h.defaults (switch_of p n) less)

-- ---- all labels

module _ (p : Rows) (constant : Constants) (types : Types) where
  pub table_more : (f : ℕ → Bool) (n : ℕ) (all more : List Bool) (b : Bool) → all ≡ tabulated f n → b ≡ f n → more ≡ all ++ b ∷ [] → more ≡ tabulated f (n + 1)
  table_more f n all more b is same pushed = rw add-one (pushed ∙ ap₂ (λ xs x. xs ++ x ∷ []) is same)

  past_none : (n : ℕ) → length p ≤ n → false ≡ is_met p constant types n
  past_none n le = let here = label_past p n le in
      ap₂ (λ a b. a || b) (repeated_none p constant types n (sym (number_else p constant types n (ap (λ l. is_case l) here)))) (default_not p n (ap (λ l. is_default l) here))

  pub table_told : IsTree p → (all : List Bool) (n : ℕ) → n ≡ length p → all ≡ tabulated (is_met p constant types) n → AreRepeated p constant types all
  table_told tree all n whole is k = ap (λ xs. get_or xs k false) is ∙ ⊎_elim (λ lt. tabulated_at (is_met p constant types) false n k lt)
      (λ le. let long = length-tabulated (is_met p constant types) n in get_or_past (tabulated (is_met p constant types) n) k false (omega arith) ∙ past_none k (omega arith)) (cases_lt k n)

  pub met_start : (met : code.Met) → met.values.entries ≡ [] → IsEmptied met.defaults (length p) → HasMet p constant types 0 0 met
  met_start met none h = record { values = λ s z. ap (λ es. is_some (lookup (same_key (s, z)) es)) none; stamping = h.counted; defaults = λ s lt. h.none s }
