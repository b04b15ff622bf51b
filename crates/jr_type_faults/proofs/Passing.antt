-- Where a group is passed over, the faults of its rules were added: none.
use Rattle.std.proofs.Common.{◌≡◌, sym, ◌∙◌, append-nil, ℕ, false, List, [], ◌∷◌}
use Rattle.jr_rule.specs.declared.Fault.{Fault}
use Rattle.jr_rule.specs.declared.Rule.{Rule}
use Rattle.jr_rule.specs.declared.Rule.TheVariants as rule
use Rattle.jr_view.specs.declared.View.{View}
use Rattle.jr_type_facts.specs.Views.{rows_in, table_in, types_in, constants_in}
use Rattle.jr_type_faults.specs.Faults.{is_broken, AddsRules, contexts, values, uses}
use Rattle.jr_type_faults.specs.Groups.{may_break_contexts, may_break_values, may_break_uses}
use Rattle.jr_type_faults.proofs.Sparing.{objects_are_there, none_is_early, none_calls_round, all_are_throwable, all_operands_fit, all_values_fit, all_are_variables, all_casts_are_allowed, all_conditions_are_boolean, all_switches_fit, no_void_is_used, all_returns_fit, no_abstract_is_used, all_arrays_fit, all_branches_are_related}
use Rattle.jr_type_faults.proofs.Told.{adds, adds_then, object_at, early_at, round_at, throwable_at, operands_at, value_at, variable_at, cast_at, condition_at, switch_at, void_at, return_at, abstract_at, array_at, branches_at}

none_of : (view : View) (one : Rule) (n : ℕ) (old : List Fault) → is_broken view one n ≡ false → AddsRules view (one ∷ []) n old old
none_of view one n old e = adds view one false n (sym (append-nil old)) (λ exact. sym e)

module _ (view : View) (n : ℕ) (old : List Fault) where
  pub contexts_passed : may_break_contexts (rows_in view) (table_in view) n ≡ false → AddsRules view contexts n old old
  contexts_passed quiet = let p = rows_in view in let t = table_in view in let k = constants_in view in let types = types_in view in
      adds_then (none_of view rule.StaticContext n old (object_at p t k types n ∙ objects_are_there p t k types n quiet))
      (adds_then (none_of view rule.ForwardReference n old (early_at p t k types n ∙ none_is_early p t k types n quiet))
      (adds_then (none_of view rule.ConstructorCycle n old (round_at p t k types n ∙ none_calls_round p t k types n quiet))
      (none_of view rule.Throwable n old (throwable_at p t k types n ∙ all_are_throwable p t k types n quiet))))

  pub values_passed : may_break_values (rows_in view) n ≡ false → AddsRules view values n old old
  values_passed quiet = let p = rows_in view in let t = table_in view in let k = constants_in view in let types = types_in view in
      adds_then (none_of view rule.Operands n old (operands_at p t k types n ∙ all_operands_fit p t k types n quiet))
      (adds_then (none_of view rule.Assignable n old (value_at p t k types n ∙ all_values_fit p t k types n quiet))
      (adds_then (none_of view rule.Variable n old (variable_at p t k types n ∙ all_are_variables p t k types n quiet))
      (adds_then (none_of view rule.Cast n old (cast_at p t k types n ∙ all_casts_are_allowed p t k types n quiet))
      (none_of view rule.Condition n old (condition_at p t k types n ∙ all_conditions_are_boolean p t k types n quiet)))))

  pub uses_passed : may_break_uses (rows_in view) n ≡ false → AddsRules view uses n old old
  uses_passed quiet = let p = rows_in view in let t = table_in view in let k = constants_in view in let types = types_in view in
      adds_then (none_of view rule.Switch n old (switch_at p t k types n ∙ all_switches_fit p t k types n quiet))
      (adds_then (none_of view rule.VoidValue n old (void_at p t k types n ∙ no_void_is_used p t k types n quiet))
      (adds_then (none_of view rule.Return n old (return_at p t k types n ∙ all_returns_fit p t k types n quiet))
      (adds_then (none_of view rule.Abstract n old (abstract_at p t k types n ∙ no_abstract_is_used p t k types n quiet))
      (adds_then (none_of view rule.Index n old (array_at p t k types n ∙ all_arrays_fit p t k types n quiet))
      (none_of view rule.Branches n old (branches_at p t k types n ∙ all_branches_are_related p t k types n quiet))))))
