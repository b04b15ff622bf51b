-- The view of a bound program is one that the rules can be tested on, and where their tests pass at no row it keeps them.
use Rattle.std.proofs.Common.{◌≡◌, sym, ◌∙◌, ap, subst, ℕ, ◌≤◌, true, List, [], Option, None, length, slice_index_or, codes, Contains}
use Rattle.std.proofs.Math.Path.{fun_ext}
use Rattle.jr_base.specs.declared.token.Place.{Place}
use Rattle.jr_tree.specs.Local.{IsLocal}
use Rattle.jr_tree.specs.Rows.{Rows}
use Rattle.jr_defs.specs.declared.referent.Referent.{Referent}
use Rattle.jr_defs.specs.declared.referent.Referent.TheVariants.{Unbound}
use Rattle.jr_defs.specs.declared.referent.RowType.{RowType}
use Rattle.jr_defs.specs.Binding.{IsBound}
use Rattle.jr_defs.specs.declared.program.Program.{Program}
use Rattle.jr_defs.specs.Compiling.{AllFound, KeepsRules}
use Rattle.jr_defs.specs.Constants.{HasConstantForm}
use Rattle.jr_defs.specs.Program.{rows_of as program_rows}
use Rattle.jr_defs.specs.Referents.{Table, entries}
use Rattle.jr_plain.specs.Constants.{variable_value}
use Rattle.jr_plain.specs.Conversions.{Constants}
use Rattle.jr_plain.specs.Overloads.{Types}
use Rattle.jr_plain.specs.Search.{Finds}
use Rattle.jr_plain.specs.Typing.{IsTypable, expression_types}
use Rattle.jr_plain.proofs.Declared.{prelude_tells}
use Rattle.jr_plain.proofs.Typables.{typable_from_lookup}
use Rattle.jr_rules.specs.Computed.{values, types}
use Rattle.jr_rules.specs.Typed.{Typed}
use Rattle.jr_rules.proofs.Known.{types_find}
use Rattle.jr_bound.proofs.Ruled.{bound_past}
use Rattle.jr_dispatch.proofs.Having.{above_then}
use Rattle.jr_constants.specs.Resting.{values_of, variables_of}
use Rattle.jr_lookup.proofs.Instancing.{around_is}
use Rattle.jr_bind.proofs.Confirmed.{program_in}
use Rattle.jr_prelude.specs.Begins.{BeginsWithLang}
use Rattle.jr_prelude.proofs.Begun.{once}
use Rattle.jr_member_faults.proofs.Values.{variables_same}
use Rattle.jr_type_facts.specs.Rounds.{HaveOneCall}
use Rattle.jr_type_facts.specs.Tables.{HasNoOtherThrowable}
use Rattle.jr_type_facts.proofs.CallRows.{one_call}
use Rattle.jr_type_facts.specs.Views.{rows_in as rows_of, table_in as table_of, types_in, constants_in}
use Rattle.jr_flow_faults.specs.Reading.{IsThrowingView}
use Rattle.jr_flow_faults.specs.Roots.{HasOneOfEach}
use Rattle.jr_rule.specs.declared.Fault.{Fault}
use Rattle.jr_rule.specs.declared.Rule.{Rule}
use Rattle.jr_rule.specs.Numbers.{number_of}
use Rattle.jr_marks.specs.Made.{AreMade}
use Rattle.jr_marks.specs.declared.marks.Marks.{Marks}
use Rattle.jr_view.specs.declared.View.{View}
use Rattle.jr_front.specs.Bound.{rows_in, table_in, IsBoundIn}
use Rattle.jr_front.specs.Broken.{IsFirstBroken}
use Rattle.jr_front.specs.Compiling.{BreaksRule, KeepsAllRules}
use Rattle.jr_front.specs.Refusing.{IsFirstBreak}
use Rattle.jr_front.specs.Tested.{IsTestableView, AreFaultsIn, HasNoTopFault}
use Rattle.jr_front.specs.Viewed.{IsViewOf, HasTablesOfRows}
use Rattle.jr_front.specs.declared.workspace.Workspace.{Workspace}
use Rattle.jr_front.proofs.Kept.{is_found, is_right}
use Rattle.jr_front.proofs.Listed.{HasFault, none_in}
use Rattle.jr_front.proofs.Refused.{first_break}
use Rattle.jr_front.proofs.Viewed.{seen_view, whole_view}

-- ---- a bound program

module _ (w : Workspace) (bound : IsBoundIn w) where
  abbrev p : Rows
  p = rows_in w

  abbrev t : Table
  t = table_in w

  typable : IsTypable p t
  typable = typable_from_lookup p t (HasConstantForm p t) bound.binding.binding.under.seen.above.well.headed bound.of.one_string
      (λ d s up down. absurd (bound.binding.binding.acyclic d (above_then p t (program_in p w.places.value w.scopes.value bound.of bound.binding.binding.well).bare up down)))
      bound.binding.binding.is_binding.bound

  values_are : values_of w.bound.value.constants.value ≡ values p t
  values_are = fun_ext (bound.binding.binding.under.constants_are.whole typable)

  abbrev types_by : List (Option RowType) → Types
  types_by all n = slice_index_or all n None

  types_are : types_by w.bound.value.types.items ≡ types p t
  types_are = fun_ext bound.binding.binding.under.types_are ∙ ap (λ (c : Constants). expression_types p t c) values_are

  variables_are : (d : ℕ) → variables_of w.bound.value.constants.value d ≡ variable_value p t (values p t) d
  variables_are d = let formed = bound.binding.binding.under.constants_are.formed in variables_same p t formed.picked formed.formed typable w.bound.value.constants.value formed.at_rest d

  past : (o : ℕ) → length p ≤ o → t o ≡ Unbound
  past = bound_past p t bound.binding.binding.is_binding

-- ---- its view

module _ (w : Workspace) (view : View) (bound : IsBoundIn w) (of : IsViewOf (rows_in w) w.places.value w.scopes.value w.bound.value view) where
  -- what holds of the rows and the table holds of those of the view
  seen_so : (P : Rows → Table → Type 0) → P (rows_in w) (table_in w) → P (rows_of view) (table_of view)
  seen_so P h = subst (λ r. P r (table_of view)) (sym of.rows_are) (subst (λ (x : List Referent). P (rows_in w) (entries x)) (sym of.table_is) h)

  told_so : (P : Rows → Table → Type 0) → P (rows_of view) (table_of view) → P (rows_in w) (table_in w)
  told_so P h = subst (λ r. P r (table_in w)) of.rows_are (subst (λ (x : List Referent). P (rows_of view) (entries x)) of.table_is h)

  view_values : constants_in view ≡ values (rows_of view) (table_of view)
  view_values = ap values_of of.constants_are ∙ seen_so (λ r x. values_of w.bound.value.constants.value ≡ values r x) (values_are w bound)

  view_types : types_in view ≡ types (rows_of view) (table_of view)
  view_types = ap (types_by w bound) of.types_are ∙ seen_so (λ r x. types_by w bound w.bound.value.types.items ≡ types r x) (types_are w bound)

  view_variables : (d : ℕ) → variables_of view.constants.now d ≡ variable_value (rows_of view) (table_of view) (values (rows_of view) (table_of view)) d
  view_variables d = ap (λ found. variables_of found d) of.constants_are ∙ seen_so (λ r x. variables_of w.bound.value.constants.value d ≡ variable_value r x (values r x) d) (variables_are w bound d)

  pub tables_view : HasTablesOfRows view
  tables_view = record {
    typed = λ n. ap (λ (all : Types). all n) view_types;
    valued = λ n. ap (λ (all : Constants). all n) view_values;
    variable = view_variables;
    around = around_is (rows_of view) view.sight.world.under.places.now (seen_view w view bound of).seen.placed;
  }

  module _ (begins : BeginsWithLang (rows_in w)) where
    one_throwable : HasNoOtherThrowable (rows_in w)
    one_throwable c d h k = once (rows_in w) begins (codes "Throwable") c d ((prelude_tells (rows_in w) (codes "Throwable") c).0 h) ((prelude_tells (rows_in w) (codes "Throwable") d).0 k)

    one_call_each : HaveOneCall (rows_in w)
    one_call_each = let is = bound.of.program in subst HaveOneCall (sym is.rows_are) (one_call is.units is.shaped)

    one_of_each : HasOneOfEach (rows_in w)
    one_of_each = let one = once (rows_in w) begins in record { throwable = one (codes "Throwable"); exception = one (codes "Exception"); error = one (codes "Error"); runtime = one (codes "RuntimeException") }

    typable_so : IsTypable (rows_of view) (table_of view)
    typable_so = seen_so IsTypable (typable w bound)

    throwing_view : IsThrowingView view
    throwing_view =
        let right = seen_view w view bound of in
        record {
          local = right.seen.placed.local;
          sized = right.sized;
          above = right.seen.above;
          typed = λ n. subst (λ (f : Types). Finds (f n) (λ a. Typed (rows_of view) (table_of view) n a)) (sym view_types) (types_find (rows_of view) (table_of view) typable_so n);
          roots = subst HasOneOfEach (sym of.rows_are) one_of_each;
        }

    pub testable_view : IsTestableView view
    testable_view =
        let right = seen_view w view bound of in
        record {
          right = record { seen = right; throwable = subst (λ r. HasNoOtherThrowable r) (sym of.rows_are) one_throwable; calls = subst HaveOneCall (sym of.rows_are) one_call_each };
          placed = record { few = right.sized.few; placed = right.seen.placed };
          seen = record { few = right.sized.few; seen = right.seen };
          tabled = record { few = right.sized.few; right = (whole_view w view bound of).world_is };
          named = right.seen.placed.are;
          signed = (whole_view w view bound of).world_is.members_are.signatures_are;
          valued = view_variables;
          whole = record { sized = right.sized; whole = whole_view w view bound of };
          throwing = throwing_view;
        }

    bound_so : IsBound (rows_of view) (table_of view)
    bound_so = seen_so IsBound bound.binding.binding.is_binding.bound

    past_so : (o : ℕ) → length (rows_of view) ≤ o → table_of view o ≡ Unbound
    past_so = seen_so (λ r x. (o : ℕ) → length r ≤ o → x o ≡ Unbound) (past w bound)

    local_so : IsLocal (rows_of view)
    local_so = (seen_view w view bound of).seen.placed.local

    module _ (m : Marks) (tops : HasNoTopFault (rows_in w)) (faults : List Fault) (all : AreFaultsIn m view faults) where
      tops_so : HasNoTopFault (rows_of view)
      tops_so = subst HasNoTopFault (sym of.rows_are) tops

      found_so : (k n : ℕ) → BreaksRule m (rows_of view) (table_of view) k n → HasFault faults k n
      found_so = is_found m view testable_view local_so typable_so past_so view_values view_types tops_so faults all

      -- each fault is at a row that breaks its rule
      abbrev AreRight : Rows → Table → Type 0
      AreRight r x = (fault : Fault) → Contains faults fault → BreaksRule m r x (number_of fault.rule) fault.row

      right_so : AllFound (rows_of view) (table_of view) → AreRight (rows_of view) (table_of view)
      right_so found = is_right m view testable_view local_so typable_so past_so view_values view_types tops_so faults all bound_so found

      -- the first fault that is found is the first that is broken
      pub broken_view : (best : Rule × Place) → m.rows.now ≡ rows_in w → AllFound (rows_of view) (table_of view) → IsFirstBroken m faults best → IsFirstBreak m (table_in w) best.0 best.1
      broken_view best same found first = first_break m (table_in w) faults best
          (subst (λ r. AreRight r (table_in w)) (sym same) (told_so AreRight (right_so found)))
          (subst (λ r. (k n : ℕ) → BreaksRule m r (table_in w) k n → HasFault faults k n) (sym same) (told_so (λ r x. (k n : ℕ) → BreaksRule m r x k n → HasFault faults k n) found_so)) first

    pub kept_view : (m : Marks) → AllFound (rows_of view) (table_of view) → HasNoTopFault (rows_in w) → (IsTestableView view → AreFaultsIn m view []) → KeepsRules (rows_in w) (table_in w) (BreaksRule m)
    kept_view m found tops none = record {
      binding = bound.binding.binding.is_binding;
      found = told_so AllFound found;
      kept = told_so (λ r x. (rule place : ℕ) → BreaksRule m r x rule place → ⊥) (λ k n b. none_in k n (found_so m tops [] (none testable_view) k n b));
    }

-- the same, as the rows and the places of the program are read
pub kept_so : (program : Program) (w : Workspace) (view : View) (m : Marks) → IsViewOf (rows_in w) w.places.value w.scopes.value w.bound.value view → AreMade program m → AllFound m.rows.now (table_of view)
    → HasNoTopFault (program_rows program) → (IsTestableView view → AreFaultsIn m view []) → rows_in w ≡ program_rows program → IsBoundIn w → BeginsWithLang (program_rows program) → KeepsAllRules program (table_in w)
kept_so program w view m of are found tops none same bound begins =
    let inside = subst (λ r. AllFound r (table_of view)) (are.rows ∙ sym same ∙ sym of.rows_are) found in
    record {
      marks = m;
      are = are;
      keeps = subst (λ r. KeepsRules r (table_in w) (BreaksRule m)) same (kept_view w view bound of (subst BeginsWithLang (sym same) begins) m inside (subst HasNoTopFault (sym same) tops) none);
    }
