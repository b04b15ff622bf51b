-- What the makers of faults add, one after the other, is what is found.
use Rattle.std.proofs.Common.{◌≡◌, refl, subst, ℕ, Bool, true, false, ◌||◌, List, []}
use Rattle.std.specs.List.{AllByRecursion}
use Rattle.std.proofs.lemmas.Bool.{false≢true, or_parts}
use Rattle.jr_tree.specs.Local.{IsLocal}
use Rattle.jr_rule.specs.declared.Fault.{Fault}
use Rattle.jr_rule.specs.declared.Rule.{Rule}
use Rattle.jr_rule.specs.declared.Rule.TheVariants as rule
use Rattle.jr_rule.specs.Faults.{AreFaultsOf}
use Rattle.jr_faults.specs.Added.{AreOnly, is_rule}
use Rattle.jr_faults.proofs.Told.{none_then, then_none}
use Rattle.jr_marks.specs.declared.marks.Marks.{Marks}
use Rattle.jr_view.specs.declared.View.{View}
use Rattle.jr_name_faults.specs.Faults as of_names
use Rattle.jr_name_faults.specs.Views as names
use Rattle.jr_member_faults.specs.Faults.{AreMemberFaults, is_on_members}
use Rattle.jr_type_faults.specs.Faults.{IsRightView, AreExactTypeFaults, AreOnlyOf, type_rules, exact_rules, is_among}
use Rattle.jr_supers.specs.Supers.{AreSupersOf}
use Rattle.jr_supers.specs.Tabled.{IsSized}
use Rattle.jr_flow_faults.specs.Computed.{rows_in, table_in, facts_in}
use Rattle.jr_flow_faults.specs.ExceptionTests.{covered_rows}
use Rattle.jr_flow_faults.specs.Faults.{AreFlowFaults, AreThrowFaults, is_of_flow}
use Rattle.jr_flow_faults.specs.Known.{AreKnown}
use Rattle.jr_flow_faults.specs.Reading.{IsThrowingView}
use Rattle.jr_assign.specs.Changes.{is_of_assignment}
use Rattle.jr_assign_faults.specs.Faults as of_assignment
use Rattle.jr_front.specs.Modifiers.{modifier_rows}
use Rattle.jr_front.specs.Tested.{IsTestableView, AreFaultsIn, is_of_changes}
use Rattle.jr_front.proofs.Numbers.{among_holds}

-- the rules on modifiers and on assignment
abbrev is_before : Rule → Bool
is_before one = is_rule rule.Modifiers one || is_of_assignment one

-- the faults of catches that catch what is caught before, where rows can be counted and supertypes are those of the table
abbrev AreCovered : View → List Fault → List Fault → Type 0
AreCovered view old new = IsSized (rows_in view) → AreSupersOf (rows_in view) (table_in view) view.sight.world.supers.now → AreFaultsOf rule.CoveredCatch (covered_rows (rows_in view) (table_in view)) old new

-- what each maker adds
pub record AreAdded (m : Marks) (view : View) (a b c d e f : List Fault) : Type 0 where
  pub modifiers : AreFaultsOf rule.Modifiers (modifier_rows m) [] a
  pub only_modifiers : AreOnly (is_rule rule.Modifiers) [] a
  pub reads : IsLocal (rows_in view) → AreKnown (rows_in view) (table_in view) (facts_in view) → of_assignment.AreExactFaults view rule.UnassignedLocal a b
  pub finals : IsLocal (rows_in view) → of_assignment.AreExactFaults view rule.FinalAssignment a b
  pub blanks : IsLocal (rows_in view) → AreKnown (rows_in view) (table_in view) (facts_in view) → of_assignment.AreExactFaults view rule.UnassignedFinal a b
  pub only_assigned : AreOnly is_of_assignment a b
  pub members : AreMemberFaults view b c
  pub only_members : AreOnly is_on_members b c
  pub types : IsRightView view → AreExactTypeFaults view c d
  pub only_types : AreOnlyOf type_rules c d
  pub flow : IsLocal (rows_in view) → AreFlowFaults view d e
  pub thrown : IsThrowingView view → AreThrowFaults view d e
  pub covered : AreCovered view d e
  pub only_flow : AreOnly is_of_flow d e
  pub local_names : names.IsPlacedView view → of_names.AreExactFaults view rule.LocalNames e f
  pub labels : names.IsPlacedView view → of_names.AreExactFaults view rule.Labels e f
  pub access : names.IsSeenView view → of_names.AreExactFaults view rule.Access e f
  pub import_names : names.IsPlacedView view → of_names.AreExactFaults view rule.ImportNames e f
  pub imported_types : names.IsPlacedView view → of_names.AreExactFaults view rule.ImportedTypes e f
  pub static_imports : names.IsTabledView view → of_names.AreExactFaults view rule.StaticImports e f
  pub only_names : of_names.AreOfNames e f

-- a rule that is none of the other makers'
abbrev is_no_member : Rule → Bool
is_no_member one = is_before one || (is_among type_rules one || (is_of_flow one || of_names.is_of_names one))

abbrev is_no_type : Rule → Bool
is_no_type one = is_before one || (is_on_members one || (is_of_flow one || of_names.is_of_names one))

abbrev is_no_flow : Rule → Bool
is_no_flow one = is_before one || (is_on_members one || (is_among type_rules one || of_names.is_of_names one))

abbrev is_no_name : Rule → Bool
is_no_name one = is_before one || (is_on_members one || (is_among type_rules one || is_of_flow one))

-- one of a maker behind the first two
abbrev is_later : Rule → Bool
is_later one = is_on_members one || (is_among type_rules one || (is_of_flow one || of_names.is_of_names one))

-- no maker adds one of the rules of changes
of_no_maker : (one : Rule) → is_of_changes one ≡ true → (is_before one ≡ false) × (is_later one ≡ false)
of_no_maker rule.PathTwice is = (refl, refl)
of_no_maker rule.TypeChange is = (refl, refl)
of_no_maker rule.HeaderCycle is = (refl, refl)
of_no_maker _ is = absurd (false≢true is)

parts : (a b c d : Bool) → (a || (b || (c || d))) ≡ false → (a ≡ false) × (b ≡ false) × (c ≡ false) × (d ≡ false)
parts a b c d e =
    let first = or_parts a (b || (c || d)) e in
    let second = or_parts b (c || d) first.1 in
    let rest = or_parts c d second.1 in
    (first.0, second.0, rest.0, rest.1)

module _ {m : Marks} {view : View} {a b c d e f : List Fault} (added : AreAdded m view a b c d e f) where
  none_before : (one : Rule) → is_before one ≡ false → AreFaultsOf one [] [] b
  none_before one apart = let both = or_parts (is_rule rule.Modifiers one) (is_of_assignment one) apart in none_then one (added.only_modifiers.others one both.0) (added.only_assigned.others one both.1)

  of_members : {rows : List ℕ} (one : Rule) → is_no_member one ≡ false → AreFaultsOf one rows b c → AreFaultsOf one rows [] f
  of_members one apart h = let each = parts (is_before one) (is_among type_rules one) (is_of_flow one) (of_names.is_of_names one) apart in
      then_none one (then_none one (then_none one (none_then one (none_before one each.0) h) (added.only_types.others one each.1)) (added.only_flow.others one each.2)) (added.only_names.others one each.3)

  of_types : {rows : List ℕ} (one : Rule) → is_no_type one ≡ false → AreFaultsOf one rows c d → AreFaultsOf one rows [] f
  of_types one apart h = let each = parts (is_before one) (is_on_members one) (is_of_flow one) (of_names.is_of_names one) apart in
      then_none one (then_none one (none_then one (none_then one (none_before one each.0) (added.only_members.others one each.1)) h) (added.only_flow.others one each.2)) (added.only_names.others one each.3)

  of_flow : {rows : List ℕ} (one : Rule) → is_no_flow one ≡ false → AreFaultsOf one rows d e → AreFaultsOf one rows [] f
  of_flow one apart h = let each = parts (is_before one) (is_on_members one) (is_among type_rules one) (of_names.is_of_names one) apart in
      then_none one (none_then one (none_then one (none_then one (none_before one each.0) (added.only_members.others one each.1)) (added.only_types.others one each.2)) h) (added.only_names.others one each.3)

  of_name : {rows : List ℕ} (one : Rule) → is_no_name one ≡ false → AreFaultsOf one rows e f → AreFaultsOf one rows [] f
  of_name one apart h = let each = parts (is_before one) (is_on_members one) (is_among type_rules one) (is_of_flow one) apart in
      none_then one (none_then one (none_then one (none_then one (none_before one each.0) (added.only_members.others one each.1)) (added.only_types.others one each.2)) (added.only_flow.others one each.3)) h

  -- each exact rule on types is one of theirs alone
  types_apart : AllByRecursion (λ one. is_no_type one ≡ false) exact_rules
  types_apart = (refl, (refl, (refl, (refl, (refl, (refl, (refl, (refl, (refl, (refl, (refl, (refl, (refl, (refl, (refl, tt)))))))))))))))

  of_first : {rows : List ℕ} (one : Rule) → is_later one ≡ false → AreFaultsOf one rows [] b → AreFaultsOf one rows [] f
  of_first one apart h = let each = parts (is_on_members one) (is_among type_rules one) (is_of_flow one) (of_names.is_of_names one) apart in
      then_none one (then_none one (then_none one (then_none one h (added.only_members.others one each.0)) (added.only_types.others one each.1)) (added.only_flow.others one each.2)) (added.only_names.others one each.3)

  pub are_found : IsTestableView view → AreFaultsIn m view f
  are_found testable = record {
    modifiers = of_first rule.Modifiers refl (then_none rule.Modifiers added.modifiers (added.only_assigned.others rule.Modifiers refl));
    reads = λ known. let told = added.reads testable.right.seen.seen.placed.local known in record {
      rows = told.rows;
      are = of_first rule.UnassignedLocal refl (none_then rule.UnassignedLocal (added.only_modifiers.others rule.UnassignedLocal refl) told.are);
      each = told.each;
    };
    finals = let told = added.finals testable.right.seen.seen.placed.local in record {
      rows = told.rows;
      are = of_first rule.FinalAssignment refl (none_then rule.FinalAssignment (added.only_modifiers.others rule.FinalAssignment refl) told.are);
      each = told.each;
    };
    blanks = λ known. let told = added.blanks testable.right.seen.seen.placed.local known in record {
      rows = told.rows;
      are = of_first rule.UnassignedFinal refl (none_then rule.UnassignedFinal (added.only_modifiers.others rule.UnassignedFinal refl) told.are);
      each = told.each;
    };
    names = record {
      local_names = of_name rule.LocalNames refl (added.local_names testable.placed);
      labels = of_name rule.Labels refl (added.labels testable.placed);
      import_names = of_name rule.ImportNames refl (added.import_names testable.placed);
      imported_types = of_name rule.ImportedTypes refl (added.imported_types testable.placed);
      static_imports = of_name rule.StaticImports refl (added.static_imports testable.tabled);
      access = of_name rule.Access refl (added.access testable.seen);
    };
    members = record {
      bodies = of_members rule.Bodies refl added.members.bodies;
      statics = λ valued. of_members rule.InnerStatics refl (added.members.statics valued);
      supertypes = of_members rule.Supertypes refl added.members.supertypes;
      fields = λ named. of_members rule.FieldNames refl (added.members.fields named);
      methods = λ named signed. of_members rule.MethodSignatures refl (added.members.methods named signed);
      constructors = λ signed. of_members rule.ConstructorSignatures refl (added.members.constructors signed);
      types = λ named. of_members rule.TypeNames refl (added.members.types named);
      abstracts = λ whole. of_members rule.AbstractMembers refl (added.members.abstracts whole);
      results = λ whole. of_members rule.Results refl (added.members.results whole);
      access = λ whole. of_members rule.NarrowedAccess refl (added.members.access whole);
      mixed = λ whole. of_members rule.StaticOverride refl (added.members.mixed whole);
      finals = λ whole. of_members rule.FinalOverride refl (added.members.finals whole);
      throws = λ whole. of_members rule.OverrideThrows refl (added.members.throws whole);
    };
    types = record { each = λ one is. of_types one (among_holds (λ other. is_no_type other ≡ false) exact_rules one types_apart is) ((added.types testable.right).each one is) };
    flow = let told = added.flow testable.right.seen.seen.placed.local in record {
      jumps = of_flow rule.Jump refl told.jumps;
      unreached = of_flow rule.Unreachable refl told.unreached;
      completing = of_flow rule.Completion refl told.completing;
    };
    thrown = let told = added.thrown testable.throwing in record {
      uncaught = of_flow rule.UncaughtException refl told.uncaught;
      unthrown = of_flow rule.UnthrownCatch refl told.unthrown;
    };
    covered = of_flow rule.CoveredCatch refl (added.covered testable.right.seen.sized testable.right.seen.seen.above);
    others = λ one is. let both = of_no_maker one is in of_first one both.1 (none_before one both.0);
  }

-- the same, as the steps of the code give it
pub added_found : (m : Marks) (view : View) (start a b c d e f : List Fault) → start ≡ [] → AreFaultsOf rule.Modifiers (modifier_rows m) start a → AreOnly (is_rule rule.Modifiers) start a
    → (IsLocal (rows_in view) → AreKnown (rows_in view) (table_in view) (facts_in view) → of_assignment.AreExactFaults view rule.UnassignedLocal a b)
    → (IsLocal (rows_in view) → of_assignment.AreExactFaults view rule.FinalAssignment a b)
    → (IsLocal (rows_in view) → AreKnown (rows_in view) (table_in view) (facts_in view) → of_assignment.AreExactFaults view rule.UnassignedFinal a b) → AreOnly is_of_assignment a b → AreMemberFaults view b c → AreOnly is_on_members b c
    → (IsRightView view → AreExactTypeFaults view c d) → AreOnlyOf type_rules c d → (IsLocal (rows_in view) → AreFlowFaults view d e) → (IsThrowingView view → AreThrowFaults view d e) → AreCovered view d e → AreOnly is_of_flow d e
    → (names.IsPlacedView view → of_names.AreExactFaults view rule.LocalNames e f) → (names.IsPlacedView view → of_names.AreExactFaults view rule.Labels e f) → (names.IsSeenView view → of_names.AreExactFaults view rule.Access e f)
    → (names.IsPlacedView view → of_names.AreExactFaults view rule.ImportNames e f) → (names.IsPlacedView view → of_names.AreExactFaults view rule.ImportedTypes e f)
    → (names.IsTabledView view → of_names.AreExactFaults view rule.StaticImports e f) → of_names.AreOfNames e f → IsTestableView view → AreFaultsIn m view f
added_found m view start a b c d e f none modifiers only_modifiers reads finals blanks only_assigned members only_members types only_types flow thrown covered only_flow local_names labels access import_names imported_types static_imports only_names =
    are_found (record {
      modifiers = subst (λ (l : List Fault). AreFaultsOf rule.Modifiers (modifier_rows m) l a) none modifiers;
      only_modifiers = subst (λ (l : List Fault). AreOnly (is_rule rule.Modifiers) l a) none only_modifiers;
      reads = reads;
      finals = finals;
      blanks = blanks;
      only_assigned = only_assigned;
      members = members;
      only_members = only_members;
      types = types;
      only_types = only_types;
      flow = flow;
      thrown = thrown;
      covered = covered;
      only_flow = only_flow;
      local_names = local_names;
      labels = labels;
      access = access;
      import_names = import_names;
      imported_types = imported_types;
      static_imports = static_imports;
      only_names = only_names;
    })
