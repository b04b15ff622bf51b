-- What the tests of a program say where they fail is the first cause.
use Rattle.std.proofs.Common.{◌≡◌, ◌⊎◌, sym, ◌∙◌, ap, subst, inl, inr, List, map}
use Rattle.jr_defs.specs.declared.program.Program.{Program}
use Rattle.jr_defs.specs.declared.program.UnitAt.{UnitAt}
use Rattle.jr_defs.specs.declared.referent.Referent.{Referent}
use Rattle.jr_defs.specs.Binding.{IsBinding, IsFirstOnCycle}
use Rattle.jr_defs.specs.Compiling.{AllFound}
use Rattle.jr_defs.specs.Program.{IsWellPlaced, rows_of}
use Rattle.jr_defs.specs.Referents.{Table, entries}
use Rattle.jr_index.specs.Marking.{Marked, program_marks}
use Rattle.jr_marks.specs.Made.{AreMade}
use Rattle.jr_marks.specs.Places.{IsOrdered}
use Rattle.jr_marks.specs.declared.marks.Marks.{Marks}
use Rattle.jr_marks.proofs.Made.{marks_ordered}
use Rattle.jr_prelude.specs.Begins.{BeginsWithLang}
use Rattle.jr_view.specs.declared.View.{View}
use Rattle.jr_front.specs.Bound.{rows_in, IsBoundIn, IsIndexed}
use Rattle.jr_front.specs.Reasons.{IsPathReason, IsNameReason, IsCycleReason, IsTableReason, IsRuleReason}
use Rattle.jr_front.specs.Refusing.{IsNamed, IsBoundBy, IsFirstBreak, IsRefusal, misplaced, named_twice, on_cycle, lost, broken, no_memory}
use Rattle.jr_front.specs.Tested.{HasNoTopFault}
use Rattle.jr_front.specs.Viewed.{IsViewOf}
use Rattle.jr_front.specs.declared.fault.FrontFault.{FrontFault}
use Rattle.jr_front.specs.declared.fault.FrontFault.TheVariants as fault
use Rattle.jr_front.specs.declared.workspace.Workspace.{Workspace}
use Rattle.jr_front.proofs.Testable.{broken_view}

-- the marks of a program, which is the same as another
pub made_same : (program other : Program) (index : Marked) (m : Marks) → other ≡ program → (index.rows ≡ rows_of other → index.marks ≡ program_marks (map (λ (u : UnitAt). u.unit) other.units) → AreMade other m)
    → index.rows ≡ rows_of program → index.marks ≡ program_marks (map (λ (u : UnitAt). u.unit) program.units) → AreMade program m
made_same program other index m same made = subst (λ (q : Program). index.rows ≡ rows_of q → index.marks ≡ program_marks (map (λ (u : UnitAt). u.unit) q.units) → AreMade q m) same made

-- the marks by an index that is read
pub made_of : (program : Program) (index read : Marked) (m : Marks) → read ≡ index → (read.rows ≡ rows_of program → read.marks ≡ program_marks (map (λ (u : UnitAt). u.unit) program.units) → AreMade program m)
    → IsIndexed program index → AreMade program m
made_of program index read m same made is = made (ap (λ (i : Marked). i.rows) same ∙ is.rows) (ap (λ (i : Marked). i.marks) same ∙ is.marks)

pub ordered_so : (program : Program) (index : Marked) (m : Marks) → IsIndexed program index → AreMade program m → IsOrdered m
ordered_so program index m is made = marks_ordered program m is.shaped made is.apart

pub paths_refused : (program : Program) (why : FrontFault) → IsPathReason program why → IsRefusal program why
paths_refused program (fault.PathMismatch cu) h = misplaced h
paths_refused program fault.OutOfMemory h = no_memory
paths_refused program _ h = absurd h

module _ (program : Program) (m : Marks) (made : AreMade program m) where
  pub names_refused : IsWellPlaced program → (why : FrontFault) → IsNameReason m why → IsRefusal program why
  names_refused placed (fault.Duplicate place) h = named_twice placed made h
  names_refused placed fault.OutOfMemory h = no_memory
  names_refused placed _ h = absurd h

  pub cycle_refused : IsNamed program → (why : FrontFault) → IsCycleReason m why → IsRefusal program why
  cycle_refused named (fault.Cycle place) h = subst (λ x. IsRefusal program (fault.Cycle x)) (sym h.at) (on_cycle named made (subst (λ r. IsFirstOnCycle r h.row) made.rows h.cycle))
  cycle_refused named fault.OutOfMemory h = no_memory
  cycle_refused named _ h = absurd h

  pub table_refused : (t : Table) → IsBoundBy program t → (why : FrontFault) → IsTableReason m t why → IsRefusal program why
  table_refused t bound (fault.Unbound place) h = lost bound made h
  table_refused t bound fault.OutOfMemory h = no_memory
  table_refused t bound _ h = absurd h

  module _ (w : Workspace) (view : View) (bound : IsBoundIn w) (of : IsViewOf (rows_in w) w.places.value w.scopes.value w.bound.value view) (begins : BeginsWithLang (rows_in w)) (same : rows_in w ≡ rows_of program)
      (placed : IsWellPlaced program) (tops : HasNoTopFault (rows_of program)) where
    abbrev viewed : Table
    viewed = entries view.sight.world.under.table.now

    bound_by : IsBoundBy program viewed
    bound_by = record { named = record { placed = placed; names = tops }; binding = subst (λ r. IsBinding r viewed) same (subst (λ (x : List Referent). IsBinding (rows_in w) (entries x)) (sym of.table_is) bound.binding.binding.is_binding) }

    rules_refused : AllFound m.rows.now viewed → (why : FrontFault) → IsRuleReason m view why → IsRefusal program why
    rules_refused found (fault.Broken rule place) h =
        let marked : m.rows.now ≡ rows_in w = made.rows ∙ sym same in
        let inside = subst (λ r. AllFound r viewed) (marked ∙ sym of.rows_are) found in
        let first = broken_view w view bound of begins m (subst HasNoTopFault (sym same) tops) h.faults h.found (rule, place) marked inside h.first in
        broken bound_by (subst (λ r. AllFound r viewed) made.rows found) made (subst (λ (x : List Referent). IsFirstBreak m (entries x) rule place) (sym of.table_is) first)
    rules_refused found fault.OutOfMemory h = no_memory
    rules_refused found _ h = absurd h

    pub judged_refused : (why : FrontFault) → IsTableReason m viewed why ⊎ (AllFound m.rows.now viewed × IsRuleReason m view why) → IsRefusal program why
    judged_refused why (inl h) = table_refused viewed bound_by why h
    judged_refused why (inr h) = rules_refused h.0 why h.1
