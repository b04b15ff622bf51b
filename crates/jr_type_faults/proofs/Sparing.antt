-- At a row that a group passes over none of its rules is broken.
use Rattle.std.proofs.Common.{◌≡◌, refl, sym, ap, ap₂, ℕ, zero, suc, Bool, true, false, cond, ◌&&◌, ◌||◌, not, length, Option, Some, None}
use Rattle.std.proofs.lemmas.Bool.{false≢true, or_parts}
use Rattle.jr_tree.specs.declared.label.Label.{Label}
use Rattle.jr_tree.specs.declared.label.Label.TheVariants as is
use Rattle.jr_tree.specs.declared.label.Role.{Role}
use Rattle.jr_tree.specs.declared.label.Role.TheVariants as role
use Rattle.jr_tree.specs.Labels.{role_of}
use Rattle.jr_tree.specs.Rows.{Rows, label, parent, role_at}
use Rattle.jr_defs.specs.declared.referent.Referent.{Referent}
use Rattle.jr_defs.specs.declared.referent.Referent.TheVariants.{Declared}
use Rattle.jr_defs.specs.Referents.{Table}
use Rattle.jr_plain.specs.Constants.{is_value}
use Rattle.jr_plain.specs.Conversions.{Constants, is_assignable}
use Rattle.jr_plain.specs.Overloads.{Types}
use Rattle.jr_plain.specs.Same.{same_role}
use Rattle.jr_plain.specs.Search.{any_below}
use Rattle.jr_plain.specs.Typing.{first}
use Rattle.jr_rules.specs.CreationTests.{calls_itself_round, abstract_is_used, is_super_call}
use Rattle.jr_rules.specs.InitializingTests.{is_used_too_early, is_early, is_plain_assignment}
use Rattle.jr_rules.specs.ObjectTests.{is_field_or_method, is_instance_member, is_new, object_of, object_of_member, may_not_use, lacks_object}
use Rattle.jr_rules.specs.OperandTests.{takes_one, takes_two, is_conditional, changes_first, is_cast, is_test, is_index, operands_do_not_fit, is_no_variable, cast_is_not_allowed, branches_are_unrelated}
use Rattle.jr_rules.specs.PlaceTests.{is_new_array, is_list, is_call, initializer_type, place_type, value_does_not_fit, void_is_used, array_does_not_fit}
use Rattle.jr_rules.specs.StatementTests.{is_catch, is_throw, is_not_throwable, tests_first, tests_second, condition_is_not_boolean, is_switch, is_case, is_default, case_value, same_value, is_same_switch, switch_does_not_fit, is_return, return_does_not_fit}
use Rattle.jr_rules.specs.TypedTests.{declared_row, found, both_found}
use Rattle.jr_type_faults.specs.Groups.{needs_object, refers_to_member, is_declared_class, may_break_contexts, is_operator, holds_value, may_break_values, uses_value, holds_index, may_break_uses}

-- ---- tests of which one part fails

first_fails : {a : Bool} (b : Bool) → a ≡ false → (a && b) ≡ false
first_fails b e = ap (λ a. a && b) e

second_fails : (a : Bool) {b : Bool} → b ≡ false → (a && b) ≡ false
second_fails true e = e
second_fails false e = refl

none_passes : {a b : Bool} → a ≡ false → b ≡ false → (a || b) ≡ false
none_passes e f = ap₂ (λ a b. a || b) e f

skipped : {A : Type 0} {b : Bool} (x y : A) → b ≡ false → cond b x y ≡ y
skipped x y e = ap (λ b. cond b x y) e

untrue : {A : Type 0} → true ≡ false → A
untrue e = absurd (false≢true (sym e))

-- where each that fails one test fails another, so does what is found
found_fails : {A : Type 0} (o : Option A) (f g : A → Bool) → ((a : A) → f a ≡ false → g a ≡ false) → found o f ≡ false → found o g ≡ false
found_fails None f g less e = refl
found_fails (Some a) f g less e = less a e

no_second : {A B : Type 0} (one : Option A) (other : Option B) (test : A → B → Bool) → other ≡ None → both_found one other test ≡ false
no_second None other test e = refl
no_second (Some a) other test e = ap (λ o. found o (test a)) e

no_first : {A B : Type 0} (one : Option A) (other : Option B) (test : A → B → Bool) → one ≡ None → both_found one other test ≡ false
no_first one other test e = ap (λ o. both_found o other test) e

none_below : (n : ℕ) (test : ℕ → Bool) → ((m : ℕ) → test m ≡ false) → any_below n test ≡ false
none_below zero test none = refl
none_below (suc n) test none = none_passes (none_below n test none) (none n)

-- ---- labels at which the first group is passed over

module _ (p : Rows) (t : Table) (n : ℕ) where
  no_object : (l : Label) → needs_object l ≡ false → object_of p t n l ≡ None
  no_object (is.This is_qualified) e = untrue e
  no_object is.SuperSelect e = untrue e
  no_object (is.Call receiver) e = untrue e
  no_object _ e = refl

no_new : (l : Label) → needs_object l ≡ false → is_new l ≡ false
no_new is.New e = untrue e
no_new _ e = refl

no_throw : (l : Label) → needs_object l ≡ false → is_throw l ≡ false
no_throw is.Throw e = untrue e
no_throw _ e = refl

no_constructor : (l : Label) → needs_object l ≡ false → same_role (role_of l) role.Constructor ≡ false
no_constructor (is.Constructor modifiers) e = untrue e
no_constructor is.DefaultConstructor e = untrue e
no_constructor (is.Class modifiers is_member) e = refl
no_constructor (is.Interface modifiers is_member) e = refl
no_constructor (is.Field modifiers dims) e = refl
no_constructor (is.Method modifiers is_void has_body) e = refl
no_constructor (is.Parameter is_final dims) e = refl
no_constructor (is.Local is_final dims) e = refl
no_constructor is.Labeled e = refl
no_constructor _ e = refl

no_member : (p : Rows) (d : ℕ) → is_field_or_method (role_at p d) ≡ false → is_instance_member p d ≡ false
no_member p d e = first_fails _ e

no_field : (r : Role) → is_field_or_method r ≡ false → same_role r role.Field ≡ false
no_field role.Field e = untrue e
no_field _ e = refl

no_member_object : (p : Rows) (r : Referent) → found (declared_row r) (λ d. is_field_or_method (role_at p d)) ≡ false → object_of_member p r ≡ None
no_member_object p (Declared d (Some c)) e = ap (λ b. cond b (Some c) None) (no_member p d e)
no_member_object p (Declared d None) e = refl
no_member_object p _ e = refl

module _ (p : Rows) (t : Table) (constant : Constants) (types : Types) (n : ℕ) (quiet : may_break_contexts p t n ≡ false) where
  own_quiet : needs_object (label p n) ≡ false
  own_quiet = (or_parts (needs_object (label p n)) (is_catch (label p (parent p n)) || (refers_to_member p t n || is_declared_class p n)) quiet).0

  above_quiet : (is_catch (label p (parent p n)) || (refers_to_member p t n || is_declared_class p n)) ≡ false
  above_quiet = (or_parts (needs_object (label p n)) (is_catch (label p (parent p n)) || (refers_to_member p t n || is_declared_class p n)) quiet).1

  catch_quiet : is_catch (label p (parent p n)) ≡ false
  catch_quiet = (or_parts (is_catch (label p (parent p n))) (refers_to_member p t n || is_declared_class p n) above_quiet).0

  named_quiet : (refers_to_member p t n || is_declared_class p n) ≡ false
  named_quiet = (or_parts (is_catch (label p (parent p n))) (refers_to_member p t n || is_declared_class p n) above_quiet).1

  member_quiet : refers_to_member p t n ≡ false
  member_quiet = (or_parts (refers_to_member p t n) (is_declared_class p n) named_quiet).0

  class_quiet : is_declared_class p n ≡ false
  class_quiet = (or_parts (refers_to_member p t n) (is_declared_class p n) named_quiet).1

  pub objects_are_there : lacks_object p t n ≡ false
  objects_are_there = none_passes (ap (may_not_use p n) (no_object p t n (label p n) own_quiet))
      (none_passes (ap (may_not_use p n) (no_member_object p (t n) member_quiet))
      (none_passes (first_fails _ (no_new (label p n) own_quiet))
      (second_fails _ (found_fails (declared_row (t n)) (λ d. is_field_or_method (role_at p d)) (λ d. is_instance_member p d) (λ d e. no_member p d e) member_quiet))))

  pub none_is_early : is_used_too_early p t n ≡ false
  none_is_early = second_fails _ (found_fails (declared_row (t n)) (λ d. is_field_or_method (role_at p d)) (λ d. is_early p n d) (λ d e. late d e) member_quiet)
    where
      late : (d : ℕ) → is_field_or_method (role_at p d) ≡ false → is_early p n d ≡ false
      late d e = first_fails _ (first_fails _ (first_fails _ (no_field (role_at p d) e)))

  pub none_calls_round : calls_itself_round p t n ≡ false
  none_calls_round = first_fails _ (no_constructor (label p n) own_quiet)

  pub all_are_throwable : is_not_throwable p t types n ≡ false
  all_are_throwable = none_passes (first_fails _ (no_throw (label p n) own_quiet)) (none_passes (first_fails _ catch_quiet) (first_fails _ class_quiet))

-- ---- the second

not_one : (l : Label) → is_operator l ≡ false → takes_one l ≡ false
not_one (is.Unary op) e = untrue e
not_one (is.PreStep op) e = untrue e
not_one (is.PostStep op) e = untrue e
not_one _ e = refl

not_two : (l : Label) → is_operator l ≡ false → takes_two l ≡ false
not_two (is.Binary op) e = untrue e
not_two (is.Assign op) e = untrue e
not_two _ e = refl

not_conditional : (l : Label) → is_operator l ≡ false → is_conditional l ≡ false
not_conditional is.Conditional e = untrue e
not_conditional _ e = refl

not_cast : (l : Label) → is_operator l ≡ false → is_cast l ≡ false
not_cast is.Cast e = untrue e
not_cast _ e = refl

not_test : (l : Label) → is_operator l ≡ false → is_test l ≡ false
not_test is.IsA e = untrue e
not_test _ e = refl

holds_no_right : (l : Label) → holds_value l ≡ false → is_plain_assignment l ≡ false
holds_no_right (is.Assign op) e = untrue e
holds_no_right _ e = refl

holds_no_initializer : (l : Label) → holds_value l ≡ false → is_value l ≡ false
holds_no_initializer is.Value e = untrue e
holds_no_initializer _ e = refl

holds_no_variable : (l : Label) → holds_value l ≡ false → changes_first l ≡ false
holds_no_variable (is.Assign op) e = untrue e
holds_no_variable (is.PreStep op) e = untrue e
holds_no_variable (is.PostStep op) e = untrue e
holds_no_variable _ e = refl

holds_no_first : (l : Label) → holds_value l ≡ false → tests_first l ≡ false
holds_no_first is.If e = untrue e
holds_no_first is.While e = untrue e
holds_no_first is.Conditional e = untrue e
holds_no_first (is.For has_first has_condition) e = untrue e
holds_no_first _ e = refl

holds_no_second : (l : Label) → holds_value l ≡ false → tests_second l ≡ false
holds_no_second is.Do e = untrue e
holds_no_second (is.For has_first has_condition) e = untrue e
holds_no_second _ e = refl

module _ (p : Rows) (t : Table) (constant : Constants) (types : Types) (n : ℕ) (quiet : may_break_values p n ≡ false) where
  no_operator : is_operator (label p n) ≡ false
  no_operator = (or_parts _ _ quiet).0

  no_value_above : holds_value (label p (parent p n)) ≡ false
  no_value_above = (or_parts _ _ quiet).1

  pub all_operands_fit : operands_do_not_fit p t constant types n ≡ false
  all_operands_fit = none_passes (first_fails _ (first_fails _ (not_one (label p n) no_operator)))
      (none_passes (first_fails _ (first_fails _ (first_fails _ (not_two (label p n) no_operator)))) (first_fails _ (not_conditional (label p n) no_operator)))

  no_place : place_type p t types n ≡ None
  no_place = ap₂ (λ a b. cond a (first p types (parent p n)) (cond b (initializer_type p t types (parent p n)) None))
      (first_fails _ (holds_no_right (label p (parent p n)) no_value_above)) (holds_no_initializer (label p (parent p n)) no_value_above)

  pub all_values_fit : value_does_not_fit p t constant types n ≡ false
  all_values_fit = no_first (place_type p t types n) (types n) (λ a b. not (is_assignable p t constant n b a)) no_place

  pub all_are_variables : is_no_variable p t n ≡ false
  all_are_variables = first_fails _ (first_fails _ (holds_no_variable (label p (parent p n)) no_value_above))

  pub all_casts_are_allowed : cast_is_not_allowed p t types n ≡ false
  all_casts_are_allowed = none_passes (first_fails _ (not_cast (label p n) no_operator)) (first_fails _ (not_test (label p n) no_operator))

  pub all_conditions_are_boolean : condition_is_not_boolean p types n ≡ false
  all_conditions_are_boolean = first_fails _ (none_passes (first_fails _ (holds_no_first (label p (parent p n)) no_value_above)) (first_fails _ (holds_no_second (label p (parent p n)) no_value_above)))

-- ---- the third

not_switch : (l : Label) → uses_value l ≡ false → is_switch l ≡ false
not_switch is.Switch e = untrue e
not_switch _ e = refl

not_case : (l : Label) → uses_value l ≡ false → is_case l ≡ false
not_case is.Case e = untrue e
not_case _ e = refl

not_default : (l : Label) → uses_value l ≡ false → is_default l ≡ false
not_default is.Default e = untrue e
not_default _ e = refl

not_call : (l : Label) → uses_value l ≡ false → is_call l ≡ false
not_call (is.Call receiver) e = untrue e
not_call _ e = refl

not_super_call : (l : Label) → uses_value l ≡ false → is_super_call l ≡ false
not_super_call (is.Call receiver) e = untrue e
not_super_call _ e = refl

not_return : (l : Label) → uses_value l ≡ false → is_return l ≡ false
not_return is.Return e = untrue e
not_return _ e = refl

not_new : (l : Label) → uses_value l ≡ false → is_new l ≡ false
not_new is.New e = untrue e
not_new _ e = refl

not_list : (l : Label) → uses_value l ≡ false → is_list l ≡ false
not_list is.List e = untrue e
not_list _ e = refl

not_choice : (l : Label) → uses_value l ≡ false → is_conditional l ≡ false
not_choice is.Conditional e = untrue e
not_choice _ e = refl

holds_no_index : (l : Label) → holds_index l ≡ false → is_index l ≡ false
holds_no_index is.Index e = untrue e
holds_no_index _ e = refl

holds_no_length : (l : Label) → holds_index l ≡ false → is_new_array l ≡ false
holds_no_length (is.NewArray base lengths more) e = untrue e
holds_no_length _ e = refl

module _ (p : Rows) (t : Table) (constant : Constants) (types : Types) (n : ℕ) (quiet : may_break_uses p n ≡ false) where
  no_use : uses_value (label p n) ≡ false
  no_use = (or_parts _ _ quiet).0

  no_index_above : holds_index (label p (parent p n)) ≡ false
  no_index_above = (or_parts _ _ quiet).1

  no_case_value : case_value p constant types n ≡ None
  no_case_value = skipped _ None (not_case (label p n) no_use)

  pub all_switches_fit : switch_does_not_fit p t constant types n ≡ false
  all_switches_fit = none_passes (first_fails _ (not_switch (label p n) no_use)) (none_passes (first_fails _ (not_case (label p n) no_use))
      (none_passes (none_below n _ (λ m. second_fails (is_same_switch p m n) (no_second (case_value p constant types m) (case_value p constant types n) (λ v w. same_value v w) no_case_value))) (first_fails _ (not_default (label p n) no_use))))

  pub no_void_is_used : void_is_used p types n ≡ false
  no_void_is_used = first_fails _ (first_fails _ (not_call (label p n) no_use))

  pub all_returns_fit : return_does_not_fit p t constant types n ≡ false
  all_returns_fit = first_fails _ (not_return (label p n) no_use)

  pub no_abstract_is_used : abstract_is_used p t n ≡ false
  no_abstract_is_used = none_passes (first_fails _ (not_new (label p n) no_use)) (first_fails _ (not_super_call (label p n) no_use))

  pub all_arrays_fit : array_does_not_fit p t types n ≡ false
  all_arrays_fit = none_passes (first_fails _ (first_fails _ (holds_no_index (label p (parent p n)) no_index_above))) (none_passes (first_fails _ (first_fails _ (holds_no_index (label p (parent p n)) no_index_above)))
      (none_passes (first_fails _ (holds_no_length (label p (parent p n)) no_index_above)) (first_fails _ (not_list (label p n) no_use))))

  pub all_branches_are_related : branches_are_unrelated p t types n ≡ false
  all_branches_are_related = first_fails _ (not_choice (label p n) no_use)
