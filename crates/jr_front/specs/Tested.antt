-- What the rules ask of a view, and the faults that are found where it has that.
use Rattle.std.specs.Prelude.{◌≡◌, ℕ, Bool, true, false, ◌&&◌, List, [], length, nat_le}
use Rattle.jr_tree.specs.Rows.{Rows}
use Rattle.jr_plain.specs.Search.{all_such}
use Rattle.jr_rule.specs.declared.Fault.{Fault}
use Rattle.jr_rule.specs.declared.Rule.{Rule}
use Rattle.jr_rule.specs.declared.Rule.TheVariants as rule
use Rattle.jr_rule.specs.Numbers.{number_of}
use Rattle.jr_rule.specs.Faults.{AreFaultsOf, rows_of}
use Rattle.jr_faults.specs.Added.{AreOnly}
use Rattle.jr_marks.specs.declared.marks.Marks.{Marks}
use Rattle.jr_view.specs.declared.View.{View}
use Rattle.jr_name_faults.specs.Faults.{AreExactFaults}
use Rattle.jr_name_faults.specs.Views as names
use Rattle.jr_member_faults.specs.Faults.{AreMemberFaults}
use Rattle.jr_member_faults.specs.Tops.{has_top_type_clash}
use Rattle.jr_member_faults.specs.Views.{IsNamedWorld, IsSignedWorld, IsRightWorld, IsValuedView}
use Rattle.jr_type_faults.specs.Faults.{IsRightView, AreExactTypeFaults}
use Rattle.jr_flow_faults.specs.Computed.{rows_in, table_in, facts_in}
use Rattle.jr_flow_faults.specs.ExceptionTests.{covered_rows}
use Rattle.jr_flow_faults.specs.Faults.{AreFlowFaults, AreThrowFaults}
use Rattle.jr_flow_faults.specs.Known.{AreKnown}
use Rattle.jr_flow_faults.specs.Reading.{IsThrowingView}
use Rattle.jr_assign_faults.specs.Faults as of_assignment
use Rattle.jr_front.specs.Modifiers.{modifier_rows}

-- the places, supertypes, signatures, types and values of variables of the view are right, and java.lang has one class of each name by which others are checked
pub record IsTestableView (view : View) : Type 0 where
  pub right : IsRightView view
  pub placed : names.IsPlacedView view
  pub seen : names.IsSeenView view
  pub tabled : names.IsTabledView view
  pub named : IsNamedWorld view.sight.world
  pub signed : IsSignedWorld view.sight.world
  pub valued : IsValuedView view
  pub whole : IsRightWorld view.sight.world
  pub throwing : IsThrowingView view

-- ---- the rules of a list of faults

-- the number of the rule is one of these
abbrev pub is_between : ℕ → ℕ → Rule → Bool
is_between first last one = nat_le first (number_of one) && nat_le (number_of one) last

-- of the faults that were found those of such rules were added, and no others
pub record AreTakenOver (first last : ℕ) (found old new : List Fault) : Type 0 where
  pub others : AreOnly (is_between first last) old new
  pub these : (one : Rule) → is_between first last one ≡ true → AreFaultsOf one (rows_of one found) old new

-- ---- types outside any other (JLS 7.1, 7.6)

-- none has the name of one before it in its package, or of a subpackage
abbrev pub HasNoTopFault : Rows → Type 0
HasNoTopFault p = all_such (length p) (has_top_type_clash p) ≡ []

-- the faults stand at those that have, and there are no others
pub record AreClashes (p : Rows) (faults : List Fault) : Type 0 where
  pub others : AreOnly (is_between 2 2) [] faults
  pub clashes : AreFaultsOf rule.TypeNames (all_such (length p) (has_top_type_clash p)) [] faults

-- ---- the rules of a bound program

-- the faults of the rules on names
pub record AreNameFaults (view : View) (faults : List Fault) : Type 0 where
  pub local_names : AreExactFaults view rule.LocalNames [] faults
  pub labels : AreExactFaults view rule.Labels [] faults
  pub import_names : AreExactFaults view rule.ImportNames [] faults
  pub imported_types : AreExactFaults view rule.ImportedTypes [] faults
  pub static_imports : AreExactFaults view rule.StaticImports [] faults
  pub access : AreExactFaults view rule.Access [] faults

-- the rules of changes, which no program breaks by itself: files of one path and types that change are tested where a change is made, and a cycle of headers is told before any rule
abbrev pub is_of_changes : Rule → Bool
is_of_changes rule.PathTwice = true
is_of_changes rule.TypeChange = true
is_of_changes rule.HeaderCycle = true
is_of_changes _ = false

-- the faults of each rule are just those at the rows of its definition
pub record AreFaultsIn (m : Marks) (view : View) (faults : List Fault) : Type 0 where
  pub modifiers : AreFaultsOf rule.Modifiers (modifier_rows m) [] faults
  pub reads : AreKnown (rows_in view) (table_in view) (facts_in view) → of_assignment.AreExactFaults view rule.UnassignedLocal [] faults
  pub finals : of_assignment.AreExactFaults view rule.FinalAssignment [] faults
  pub blanks : AreKnown (rows_in view) (table_in view) (facts_in view) → of_assignment.AreExactFaults view rule.UnassignedFinal [] faults
  pub names : AreNameFaults view faults
  pub members : AreMemberFaults view [] faults
  pub types : AreExactTypeFaults view [] faults
  pub flow : AreFlowFaults view [] faults
  pub thrown : AreThrowFaults view [] faults
  pub covered : AreFaultsOf rule.CoveredCatch (covered_rows (rows_in view) (table_in view)) [] faults
  pub others : (one : Rule) → is_of_changes one ≡ true → AreFaultsOf one [] [] faults
