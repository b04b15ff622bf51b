-- The faults that are found are at the rows that break their rules, and each such row has one; where there are none, none is broken.
use Rattle.std.proofs.Common.{◌≡◌, ◌⊎◌, refl, sym, ◌∙◌, ap, subst, inl, inr, ⊎_elim, ℕ, ◌≤◌, ◌<◌, Bool, true, false, List, [], length, Contains}
use Rattle.std.proofs.lemmas.Bool.{false≢true, or_cases, or_left}
use Rattle.jr_tree.specs.declared.label.Label.TheVariants as is
use Rattle.jr_tree.specs.Local.{IsLocal}
use Rattle.jr_tree.specs.Rows.{Rows, label}
use Rattle.jr_defs.specs.declared.referent.Referent.TheVariants.{Unbound}
use Rattle.jr_defs.specs.Binding.{IsBound}
use Rattle.jr_defs.specs.Compiling.{AllFound}
use Rattle.jr_defs.specs.Referents.{Table}
use Rattle.jr_defs.specs.MemberRules.{BreaksMembers}
use Rattle.jr_defs.specs.Rules.{Breaks}
use Rattle.jr_plain.specs.Conversions.{Constants}
use Rattle.jr_plain.specs.Overloads.{Types}
use Rattle.jr_plain.specs.Search.{Finds, has, all_such}
use Rattle.jr_plain.specs.Typing.{IsTypable}
use Rattle.jr_plain.proofs.Searches.{such}
use Rattle.jr_rule.specs.declared.Fault.{Fault}
use Rattle.jr_rule.specs.declared.Rule.{Rule}
use Rattle.jr_rule.specs.declared.Rule.TheVariants as rule
use Rattle.jr_rule.specs.Numbers.{number_of}
use Rattle.jr_rule.specs.Faults.{AreFaultsOf}
use Rattle.jr_name_rules.specs.Computed as named
use Rattle.jr_name_rules.proofs.AllRules.{breaks_tells}
use Rattle.jr_name_rules.proofs.Bounded.{broken_in_local}
use Rattle.jr_member_rules.specs.Computed.{breaks_members}
use Rattle.jr_member_rules.proofs.AllRules as of_members
use Rattle.jr_rules.specs.Computed as typed
use Rattle.jr_rules.specs.TypeRules.{BreaksTypes}
use Rattle.jr_rules.specs.Typed.{Typed}
use Rattle.jr_rules.proofs.AllRules.{breaks_types_tells}
use Rattle.jr_rules.proofs.Known.{types_find}
use Rattle.jr_rules.proofs.Bounded as of_types
use Rattle.jr_reach.specs.Reached.{reached}
use Rattle.jr_reach.specs.Statements.{courses}
use Rattle.jr_reach.specs.Faults.{is_lost, is_unreached, completes_wrongly}
use Rattle.jr_marks.specs.declared.marks.Marks.{Marks}
use Rattle.jr_view.specs.declared.View.{View}
use Rattle.jr_name_faults.specs.Faults as of_names
use Rattle.jr_member_faults.specs.Faults.{has_member_type_clash}
use Rattle.jr_member_faults.specs.Tops.{has_top_type_clash}
use Rattle.jr_member_faults.proofs.Told.{types_at}
use Rattle.jr_flow_faults.specs.Computed.{facts, facts_in}
use Rattle.jr_flow_faults.specs.Faults.{BreaksFlow, BreaksThrown}
use Rattle.jr_flow_faults.specs.ExceptionTests.{is_uncaught, is_unthrown, is_covered}
use Rattle.jr_flow_faults.specs.Outwards.{completing}
use Rattle.jr_flow_faults.specs.Known.{AreKnown}
use Rattle.jr_flow_faults.proofs.Known.{facts_known}
use Rattle.jr_flow_faults.proofs.Kept.{uncaught_breaks, unthrown_breaks, covered_breaks, thrown_said}
use Rattle.jr_assign_faults.specs.Finals.{BreaksAssignment}
use Rattle.jr_type_facts.specs.Views.{rows_in, table_in, types_in, constants_in}
use Rattle.jr_type_faults.specs.Faults.{is_exact, is_broken}
use Rattle.jr_front.specs.Compiling.{BreaksRule}
use Rattle.jr_front.specs.Modifiers.{BreaksMarked, breaks_modifiers}
use Rattle.jr_front.specs.Tested.{IsTestableView, AreFaultsIn, HasNoTopFault, is_of_changes}
use Rattle.jr_front.proofs.Allowing.{modifiers_told, modified_row}
use Rattle.jr_front.proofs.Flowing.{unreached_breaks, completing_breaks, flow_said, jump_said, lost_breaks}
use Rattle.jr_front.proofs.Listed.{HasFault, listed, fault_of, passes, found}

-- a row that passes is listed
none_such : (test : ℕ → Bool) (n k : ℕ) → all_such n test ≡ [] → k < n → test k ≡ true → ⊥
none_such test n k none lt is = false≢true (ap (λ rows. has rows k) (sym none) ∙ (such test n k).1 (lt, is))

module _ (m : Marks) (view : View) (testable : IsTestableView view) (local : IsLocal (rows_in view)) (typable : IsTypable (rows_in view) (table_in view)) (past : (o : ℕ) → length (rows_in view) ≤ o → table_in view o ≡ Unbound)
    (values_are : constants_in view ≡ typed.values (rows_in view) (table_in view)) (types_are : types_in view ≡ typed.types (rows_in view) (table_in view)) (tops : HasNoTopFault (rows_in view))
    (faults : List Fault) (all : AreFaultsIn m view faults) where
  abbrev p : Rows
  p = rows_in view

  abbrev t : Table
  t = table_in view

  known : AreKnown p t (facts_in view)
  known = subst (λ (c : Constants). AreKnown p t (facts p t c)) (sym values_are) (facts_known p t typable)

  -- ---- a row that breaks a rule has a fault

  declared_found : (one : Rule) → AreFaultsOf one (all_such (length p) (named.breaks p t (number_of one))) [] faults → {n : ℕ} → Breaks p t (number_of one) n → HasFault faults (number_of one) n
  declared_found one of {n} h = found one (length p) (named.breaks p t (number_of one)) of n (broken_in_local p t (number_of one) n local h) ((breaks_tells p t (number_of one) n typable).1 h)

  -- a rule that is broken in one of two ways
  types_found : {n : ℕ} → Breaks p t 2 n → HasFault faults 2 n
  types_found {n} h = let lt = broken_in_local p t 2 n local h in
      ⊎_elim (λ inside. found rule.TypeNames (length p) (has_member_type_clash p) (all.members.types testable.named) n lt inside) (λ outside. absurd (none_such (has_top_type_clash p) (length p) n tops lt outside))
      (or_cases (has_member_type_clash p n) (has_top_type_clash p n) (sym (types_at p t n) ∙ (breaks_tells p t 2 n typable).1 h))

  named_found : (one : Rule) → of_names.AreExactFaults view one [] faults → {n : ℕ} → Breaks p t (number_of one) n → HasFault faults (number_of one) n
  named_found one of {n} h = found one (length p) (of_names.is_broken view one) of n (broken_in_local p t (number_of one) n local h)
      (subst (λ (f : Types). has (named.broken_at p t f n) (number_of one) ≡ true) (sym types_are) ((breaks_tells p t (number_of one) n typable).1 h))

  member_found : (one : Rule) → AreFaultsOf one (all_such (length p) (breaks_members p t (number_of one))) [] faults → {n : ℕ} → BreaksMembers p t (number_of one) n → HasFault faults (number_of one) n
  member_found one of {n} h = found one (length p) (breaks_members p t (number_of one)) of n (of_members.breaking_row p t typable.headed.tree h) ((of_members.breaks_members_tells p t typable (number_of one) n).1 h)

  type_found : (one : Rule) → is_exact one ≡ true → {n : ℕ} → BreaksTypes p t (number_of one) n → HasFault faults (number_of one) n
  type_found one exact {n} h = found one (length p) (is_broken view one) (all.types.each one exact) n (of_types.breaking_row p t past (number_of one) n h)
      (subst (λ (f : Types). has (typed.broken_at p t (constants_in view) f n) (number_of one) ≡ true) (sym types_are)
      (subst (λ (c : Constants). has (typed.broken_at p t c (typed.types p t) n) (number_of one) ≡ true) (sym values_are) ((breaks_types_tells p t typable (number_of one) n).1 h)))

  of_names_found : {rule n : ℕ} → Breaks p t rule n → HasFault faults rule n
  of_names_found (Breaks.two_types h named) = types_found (Breaks.two_types h named)
  of_names_found (Breaks.two_top_types h k same named lt) = types_found (Breaks.two_top_types h k same named lt)
  of_names_found (Breaks.type_and_subpackage h k) = types_found (Breaks.type_and_subpackage h k)
  of_names_found (Breaks.type_in_its_name h k named) = types_found (Breaks.type_in_its_name h k named)
  of_names_found (Breaks.two_fields h named) = declared_found rule.FieldNames (all.members.fields testable.named) (Breaks.two_fields h named)
  of_names_found (Breaks.two_methods h same) = declared_found rule.MethodSignatures (all.members.methods testable.named testable.signed) (Breaks.two_methods h same)
  of_names_found (Breaks.two_constructors h k lt same) = declared_found rule.ConstructorSignatures (all.members.constructors testable.signed) (Breaks.two_constructors h k lt same)
  of_names_found (Breaks.local_in_local variable h r named) = named_found rule.LocalNames all.names.local_names (Breaks.local_in_local variable h r named)
  of_names_found (Breaks.parameter_in_local h r named) = named_found rule.LocalNames all.names.local_names (Breaks.parameter_in_local h r named)
  of_names_found (Breaks.in_parameter h r named) = named_found rule.LocalNames all.names.local_names (Breaks.in_parameter h r named)
  of_names_found (Breaks.two_parameters q r beside named lt) = named_found rule.LocalNames all.names.local_names (Breaks.two_parameters q r beside named lt)
  of_names_found (Breaks.label_in_label h r named) = named_found rule.Labels all.names.labels (Breaks.label_in_label h r named)
  of_names_found (Breaks.two_imports h k lt named apart) = named_found rule.ImportNames all.names.import_names (Breaks.two_imports h k lt named apart)
  of_names_found (Breaks.import_and_type h top named apart) = named_found rule.ImportNames all.names.import_names (Breaks.import_and_type h top named apart)
  of_names_found (Breaks.import_not_canonical h names other) = named_found rule.ImportedTypes all.names.imported_types (Breaks.import_not_canonical h names other)
  of_names_found (Breaks.not_accessible occurs is h hidden) = named_found rule.Access all.names.access (Breaks.not_accessible occurs is h hidden)
  of_names_found (Breaks.of_hidden_type occurs h) = named_found rule.Access all.names.access (Breaks.of_hidden_type occurs h)
  of_names_found (Breaks.final_superclass h is k) = declared_found rule.Supertypes all.members.supertypes (Breaks.final_superclass h is k)
  of_names_found (Breaks.interface_as_superclass h is k) = declared_found rule.Supertypes all.members.supertypes (Breaks.interface_as_superclass h is k)
  of_names_found (Breaks.inner_superclass h is k) = declared_found rule.Supertypes all.members.supertypes (Breaks.inner_superclass h is k)
  of_names_found (Breaks.class_as_superinterface h is k) = declared_found rule.Supertypes all.members.supertypes (Breaks.class_as_superinterface h is k)
  of_names_found (Breaks.superinterface_twice h k lt is other) = declared_found rule.Supertypes all.members.supertypes (Breaks.superinterface_twice h k lt is other)
  of_names_found (Breaks.imports_nothing h k) = named_found rule.StaticImports all.names.static_imports (Breaks.imports_nothing h k)
  of_names_found (Breaks.imports_another h type k apart named other) = named_found rule.StaticImports all.names.static_imports (Breaks.imports_another h type k apart named other)
  of_names_found (Breaks.imports_beside h type top named other) = named_found rule.StaticImports all.names.static_imports (Breaks.imports_beside h type top named other)

  of_members_found : {rule n : ℕ} → BreaksMembers p t rule n → HasFault faults rule n
  of_members_found (BreaksMembers.not_implemented class a member is b lacking) = member_found rule.AbstractMembers (all.members.abstracts testable.whole) (BreaksMembers.not_implemented class a member is b lacking)
  of_members_found (BreaksMembers.not_found class a above s declares is b found d) = member_found rule.AbstractMembers (all.members.abstracts testable.whole) (BreaksMembers.not_found class a above s declares is b found d)
  of_members_found (BreaksMembers.other_result redefines lacking) = member_found rule.Results (all.members.results testable.whole) (BreaksMembers.other_result redefines lacking)
  of_members_found (BreaksMembers.no_common_result both a lacking) = member_found rule.Results (all.members.results testable.whole) (BreaksMembers.no_common_result both a lacking)
  of_members_found (BreaksMembers.no_abstract_result type member is each) = member_found rule.Results (all.members.results testable.whole) (BreaksMembers.no_abstract_result type member is each)
  of_members_found (BreaksMembers.narrowed redefines x y lt) = member_found rule.NarrowedAccess (all.members.access testable.whole) (BreaksMembers.narrowed redefines x y lt)
  of_members_found (BreaksMembers.inherited_narrows both a x y lt) = member_found rule.NarrowedAccess (all.members.access testable.whole) (BreaksMembers.inherited_narrows both a x y lt)
  of_members_found (BreaksMembers.static_over_instance hides a) = member_found rule.StaticOverride (all.members.mixed testable.whole) (BreaksMembers.static_over_instance hides a)
  of_members_found (BreaksMembers.instance_over_static over a) = member_found rule.StaticOverride (all.members.mixed testable.whole) (BreaksMembers.instance_over_static over a)
  of_members_found (BreaksMembers.inherited_static both a b) = member_found rule.StaticOverride (all.members.mixed testable.whole) (BreaksMembers.inherited_static both a b)
  of_members_found (BreaksMembers.over_final redefines a) = member_found rule.FinalOverride (all.members.finals testable.whole) (BreaksMembers.over_final redefines a)
  of_members_found (BreaksMembers.throws_more redefines a b c) = member_found rule.OverrideThrows (all.members.throws testable.whole) (BreaksMembers.throws_more redefines a b c)
  of_members_found (BreaksMembers.inherited_throws both a thrown checked lacking) = member_found rule.OverrideThrows (all.members.throws testable.whole) (BreaksMembers.inherited_throws both a thrown checked lacking)
  of_members_found (BreaksMembers.body_of_abstract is a b) = member_found rule.Bodies all.members.bodies (BreaksMembers.body_of_abstract is a b)
  of_members_found (BreaksMembers.no_body is a b c) = member_found rule.Bodies all.members.bodies (BreaksMembers.no_body is a b c)
  of_members_found (BreaksMembers.constructor_named_otherwise h is a) = member_found rule.Bodies all.members.bodies (BreaksMembers.constructor_named_otherwise h is a)
  of_members_found (BreaksMembers.abstract_in_class h a b is c) = member_found rule.Bodies all.members.bodies (BreaksMembers.abstract_in_class h a b is c)
  of_members_found (BreaksMembers.constructor_in_interface h a) = member_found rule.Bodies all.members.bodies (BreaksMembers.constructor_in_interface h a)
  of_members_found (BreaksMembers.initializer_in_interface h a is i) = member_found rule.Bodies all.members.bodies (BreaksMembers.initializer_in_interface h a is i)
  of_members_found (BreaksMembers.field_not_initialized is h a) = member_found rule.Bodies all.members.bodies (BreaksMembers.field_not_initialized is h a)
  of_members_found (BreaksMembers.static_in_inner h i s a) = member_found rule.InnerStatics (all.members.statics testable.valued) (BreaksMembers.static_in_inner h i s a)
  of_members_found (BreaksMembers.static_initializer_in_inner h i is l) = member_found rule.InnerStatics (all.members.statics testable.valued) (BreaksMembers.static_initializer_in_inner h i is l)

  of_types_found : {rule n : ℕ} → BreaksTypes p t rule n → HasFault faults rule n
  of_types_found (BreaksTypes.lacks_object h) = type_found rule.StaticContext refl (BreaksTypes.lacks_object h)
  of_types_found (BreaksTypes.used_too_early h) = type_found rule.ForwardReference refl (BreaksTypes.used_too_early h)
  of_types_found (BreaksTypes.calls_itself_round h) = type_found rule.ConstructorCycle refl (BreaksTypes.calls_itself_round h)
  of_types_found (BreaksTypes.not_throwable h) = type_found rule.Throwable refl (BreaksTypes.not_throwable h)
  of_types_found (BreaksTypes.operands h) = type_found rule.Operands refl (BreaksTypes.operands h)
  of_types_found (BreaksTypes.value h) = type_found rule.Assignable refl (BreaksTypes.value h)
  of_types_found (BreaksTypes.no_variable h) = type_found rule.Variable refl (BreaksTypes.no_variable h)
  of_types_found (BreaksTypes.cast h) = type_found rule.Cast refl (BreaksTypes.cast h)
  of_types_found (BreaksTypes.condition h) = type_found rule.Condition refl (BreaksTypes.condition h)
  of_types_found (BreaksTypes.switch h) = type_found rule.Switch refl (BreaksTypes.switch h)
  of_types_found (BreaksTypes.void h) = type_found rule.VoidValue refl (BreaksTypes.void h)
  of_types_found (BreaksTypes.returns h) = type_found rule.Return refl (BreaksTypes.returns h)
  of_types_found (BreaksTypes.abstracts h) = type_found rule.Abstract refl (BreaksTypes.abstracts h)
  of_types_found (BreaksTypes.array h) = type_found rule.Index refl (BreaksTypes.array h)
  of_types_found (BreaksTypes.jump {n = n} h) = let said = jump_said p t local (facts_in view) known n h in found rule.Jump (length p) (λ k. is_lost (label p k) (facts_in view) k) all.flow.jumps n said.0 said.1
  of_types_found (BreaksTypes.branches h) = type_found rule.Branches refl (BreaksTypes.branches h)

  typed_so : (n : ℕ) → Finds (types_in view n) (λ a. Typed p t n a)
  typed_so n = subst (λ (f : Types). Finds (f n) (λ a. Typed p t n a)) (sym types_are) (types_find p t typable n)

  abbrev completes : ℕ → Bool
  completes = completing (courses p (facts_in view))

  thrown_found : (k n : ℕ) → BreaksThrown p t k n → HasFault faults k n
  thrown_found = thrown_said p t local (facts_in view) known typable.headed (types_in view) typed_so (HasFault faults) (found rule.UncaughtException (length p) (is_uncaught p t (types_in view) completes) all.thrown.uncaught)
      (found rule.UnthrownCatch (length p) (is_unthrown p t (types_in view) completes) all.thrown.unthrown) (found rule.CoveredCatch (length p) (is_covered p t) all.covered)

  finals_found : (n : ℕ) → BreaksAssignment p t 39 n → HasFault faults 39 n
  finals_found n b = fault_of rule.FinalAssignment faults n (subst (λ rows. has rows n ≡ true) (sym all.finals.are.are) ((all.finals.each n).1 b))

  reads_found : (n : ℕ) → BreaksAssignment p t 38 n → HasFault faults 38 n
  reads_found n b = let told = all.reads known in fault_of rule.UnassignedLocal faults n (subst (λ rows. has rows n ≡ true) (sym told.are.are) ((told.each n).1 b))

  blanks_found : (n : ℕ) → BreaksAssignment p t 40 n → HasFault faults 40 n
  blanks_found n b = let told = all.blanks known in fault_of rule.UnassignedFinal faults n (subst (λ rows. has rows n ≡ true) (sym told.are.are) ((told.each n).1 b))

  assigned_found : {k n : ℕ} → BreaksAssignment p t k n → HasFault faults k n
  assigned_found (BreaksAssignment.unassigned {n = n} a b c) = reads_found n (BreaksAssignment.unassigned a b c)
  assigned_found (BreaksAssignment.changed {n = n} lt is refers fixed) = finals_found n (BreaksAssignment.changed lt is refers fixed)
  assigned_found (BreaksAssignment.left_blank {n = n} a b c) = blanks_found n (BreaksAssignment.left_blank a b c)

  marked_found : {k n : ℕ} → BreaksMarked m k n → HasFault faults k n
  marked_found (BreaksMarked.modifiers {d = d} h) = found rule.Modifiers (length m.rows.now) (breaks_modifiers m) all.modifiers d (modified_row m d h) ((modifiers_told m d).1 h)

  flow_found : (k n : ℕ) → BreaksFlow p t k n → HasFault faults k n
  flow_found = flow_said p t local (facts_in view) known (HasFault faults) (found rule.Unreachable (length p) (is_unreached p (reached p (facts_in view))) all.flow.unreached)
      (found rule.Completion (length p) (λ n. completes_wrongly (label p n) (courses p (facts_in view) n).own.completes) all.flow.completing)

  pub is_found : (k n : ℕ) → BreaksRule m p t k n → HasFault faults k n
  is_found k n (BreaksRule.by_types h) = ⊎_elim (⊎_elim of_names_found of_members_found) of_types_found h
  is_found k n (BreaksRule.by_flow h) = flow_found k n h
  is_found k n (BreaksRule.by_exceptions h) = thrown_found k n h
  is_found k n (BreaksRule.by_assignment h) = assigned_found h
  is_found k n (BreaksRule.by_tokens h) = marked_found h

  -- ---- a fault is at a row that breaks its rule

  abbrev IsRight : ℕ → Type 0
  IsRight k = (fault : Fault) → Contains faults fault → number_of fault.rule ≡ k → BreaksRule m p t k fault.row

  declared_right : (one : Rule) → AreFaultsOf one (all_such (length p) (named.breaks p t (number_of one))) [] faults → IsRight (number_of one)
  declared_right one of fault inside e = BreaksRule.by_types (inl (inl ((breaks_tells p t (number_of one) fault.row typable).0 (passes one (length p) (named.breaks p t (number_of one)) of fault inside e))))

  types_right : IsRight 2
  types_right fault inside e = BreaksRule.by_types (inl (inl ((breaks_tells p t 2 fault.row typable).0 (types_at p t fault.row
      ∙ or_left (has_member_type_clash p fault.row) (has_top_type_clash p fault.row) (passes rule.TypeNames (length p) (has_member_type_clash p) (all.members.types testable.named) fault inside e)))))

  named_right : (one : Rule) → of_names.AreExactFaults view one [] faults → IsRight (number_of one)
  named_right one of fault inside e = BreaksRule.by_types (inl (inl ((breaks_tells p t (number_of one) fault.row typable).0
      (subst (λ (f : Types). has (named.broken_at p t f fault.row) (number_of one) ≡ true) types_are (passes one (length p) (of_names.is_broken view one) of fault inside e)))))

  member_right : (one : Rule) → AreFaultsOf one (all_such (length p) (breaks_members p t (number_of one))) [] faults → IsRight (number_of one)
  member_right one of fault inside e = BreaksRule.by_types (inl (inr ((of_members.breaks_members_tells p t typable (number_of one) fault.row).0 (passes one (length p) (breaks_members p t (number_of one)) of fault inside e))))

  type_right : (one : Rule) → is_exact one ≡ true → IsRight (number_of one)
  type_right one exact fault inside e = BreaksRule.by_types (inr ((breaks_types_tells p t typable (number_of one) fault.row).0
      (subst (λ (c : Constants). has (typed.broken_at p t c (typed.types p t) fault.row) (number_of one) ≡ true) values_are
      (subst (λ (f : Types). has (typed.broken_at p t (constants_in view) f fault.row) (number_of one) ≡ true) types_are (passes one (length p) (is_broken view one) (all.types.each one exact) fault inside e)))))

  module _ (bound : IsBound p t) (all_found : AllFound p t) where
    jumps_right : IsRight 34
    jumps_right fault inside e = BreaksRule.by_types (inr (BreaksTypes.jump (lost_breaks p t local (facts_in view) known bound all_found fault.row
        (passes rule.Jump (length p) (λ k. is_lost (label p k) (facts_in view) k) all.flow.jumps fault inside e))))

    unreached_right : IsRight 36
    unreached_right fault inside e = BreaksRule.by_flow (unreached_breaks p t local (facts_in view) known fault.row (passes rule.Unreachable (length p) (is_unreached p (reached p (facts_in view))) all.flow.unreached fault inside e))

    completing_right : IsRight 37
    completing_right fault inside e = BreaksRule.by_flow (completing_breaks p t local (facts_in view) known fault.row
        (passes rule.Completion (length p) (λ k. completes_wrongly (label p k) (courses p (facts_in view) k).own.completes) all.flow.completing fault inside e))

    uncaught_right : IsRight 41
    uncaught_right fault inside e = BreaksRule.by_exceptions (uncaught_breaks p t local (facts_in view) known typable.headed (types_in view) typed_so fault.row
        (passes rule.UncaughtException (length p) (is_uncaught p t (types_in view) completes) all.thrown.uncaught fault inside e))

    unthrown_right : IsRight 42
    unthrown_right fault inside e = BreaksRule.by_exceptions (unthrown_breaks p t local (facts_in view) known typable.headed (types_in view) typed_so fault.row
        (passes rule.UnthrownCatch (length p) (is_unthrown p t (types_in view) completes) all.thrown.unthrown fault inside e))

    covered_right : IsRight 43
    covered_right fault inside e = BreaksRule.by_exceptions (covered_breaks p t local (facts_in view) known typable.headed (types_in view) typed_so fault.row (passes rule.CoveredCatch (length p) (is_covered p t) all.covered fault inside e))

    reads_right : IsRight 38
    reads_right fault inside e = let told = all.reads known in BreaksRule.by_assignment ((told.each fault.row).0 (subst (λ rows. has rows fault.row ≡ true) told.are.are (listed rule.UnassignedLocal faults fault inside e)))

    finals_right : IsRight 39
    finals_right fault inside e = BreaksRule.by_assignment ((all.finals.each fault.row).0 (subst (λ rows. has rows fault.row ≡ true) all.finals.are.are (listed rule.FinalAssignment faults fault inside e)))

    blanks_right : IsRight 40
    blanks_right fault inside e = let told = all.blanks known in BreaksRule.by_assignment ((told.each fault.row).0 (subst (λ rows. has rows fault.row ≡ true) told.are.are (listed rule.UnassignedFinal faults fault inside e)))

    marked_right : IsRight 1
    marked_right fault inside e = BreaksRule.by_tokens (BreaksMarked.modifiers ((modifiers_told m fault.row).0 (passes rule.Modifiers (length m.rows.now) (breaks_modifiers m) all.modifiers fault inside e)))

    -- of a rule of changes there is no fault
    none_right : (one : Rule) → is_of_changes one ≡ true → IsRight (number_of one)
    none_right one is fault inside e = absurd (false≢true (ap (λ rows. has rows fault.row) (sym (all.others one is).are) ∙ listed one faults fault inside e))

    right_of : (one : Rule) → IsRight (number_of one)
    right_of rule.Modifiers = marked_right
    right_of rule.TypeNames = types_right
    right_of rule.FieldNames = declared_right rule.FieldNames (all.members.fields testable.named)
    right_of rule.MethodSignatures = declared_right rule.MethodSignatures (all.members.methods testable.named testable.signed)
    right_of rule.ConstructorSignatures = declared_right rule.ConstructorSignatures (all.members.constructors testable.signed)
    right_of rule.LocalNames = named_right rule.LocalNames all.names.local_names
    right_of rule.Labels = named_right rule.Labels all.names.labels
    right_of rule.ImportNames = named_right rule.ImportNames all.names.import_names
    right_of rule.ImportedTypes = named_right rule.ImportedTypes all.names.imported_types
    right_of rule.Access = named_right rule.Access all.names.access
    right_of rule.StaticContext = type_right rule.StaticContext refl
    right_of rule.ForwardReference = type_right rule.ForwardReference refl
    right_of rule.Supertypes = declared_right rule.Supertypes all.members.supertypes
    right_of rule.AbstractMembers = member_right rule.AbstractMembers (all.members.abstracts testable.whole)
    right_of rule.Results = member_right rule.Results (all.members.results testable.whole)
    right_of rule.NarrowedAccess = member_right rule.NarrowedAccess (all.members.access testable.whole)
    right_of rule.StaticOverride = member_right rule.StaticOverride (all.members.mixed testable.whole)
    right_of rule.FinalOverride = member_right rule.FinalOverride (all.members.finals testable.whole)
    right_of rule.OverrideThrows = member_right rule.OverrideThrows (all.members.throws testable.whole)
    right_of rule.Bodies = member_right rule.Bodies all.members.bodies
    right_of rule.InnerStatics = member_right rule.InnerStatics (all.members.statics testable.valued)
    right_of rule.ConstructorCycle = type_right rule.ConstructorCycle refl
    right_of rule.Throwable = type_right rule.Throwable refl
    right_of rule.Operands = type_right rule.Operands refl
    right_of rule.Assignable = type_right rule.Assignable refl
    right_of rule.Variable = type_right rule.Variable refl
    right_of rule.Cast = type_right rule.Cast refl
    right_of rule.Condition = type_right rule.Condition refl
    right_of rule.Switch = type_right rule.Switch refl
    right_of rule.VoidValue = type_right rule.VoidValue refl
    right_of rule.Return = type_right rule.Return refl
    right_of rule.Abstract = type_right rule.Abstract refl
    right_of rule.Index = type_right rule.Index refl
    right_of rule.Jump = jumps_right
    right_of rule.Branches = type_right rule.Branches refl
    right_of rule.Unreachable = unreached_right
    right_of rule.Completion = completing_right
    right_of rule.UnassignedLocal = reads_right
    right_of rule.FinalAssignment = finals_right
    right_of rule.UnassignedFinal = blanks_right
    right_of rule.UncaughtException = uncaught_right
    right_of rule.UnthrownCatch = unthrown_right
    right_of rule.CoveredCatch = covered_right
    right_of rule.StaticImports = named_right rule.StaticImports all.names.static_imports
    right_of rule.PathTwice = none_right rule.PathTwice refl
    right_of rule.TypeChange = none_right rule.TypeChange refl
    right_of rule.HeaderCycle = none_right rule.HeaderCycle refl

    pub is_right : (fault : Fault) → Contains faults fault → BreaksRule m p t (number_of fault.rule) fault.row
    is_right fault inside = right_of fault.rule fault inside refl
