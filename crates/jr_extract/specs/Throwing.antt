-- The classes that the method throws that is made of a run: the checked classes that come out of the run (JLS 8.4.6, 11.2).
use Rattle.std.specs.Prelude.{◌≡◌, ℕ, zero, suc, Bool, true, false, not, ◌&&◌, if◌then◌else◌, List, [], ◌∷◌, ◌++◌, nat_le}
use Rattle.std.specs.List.{list_any}
use Rattle.jr_tree.specs.Rows.{Rows, parent}
use Rattle.jr_defs.specs.MemberRules.{IsChecked}
use Rattle.jr_defs.specs.Referents.{Table}
use Rattle.jr_plain.specs.Overloads.{Types}
use Rattle.jr_plain.specs.Search.{Lists, has}
use Rattle.jr_member_rules.specs.Throwing.{is_checked}
use Rattle.jr_view.specs.declared.View.{View}
use Rattle.jr_flow_faults.specs.Computed.{rows_in, table_in}
use Rattle.jr_flow_faults.specs.Exceptions.{ComesTo, ThrownAt}
use Rattle.jr_flow_faults.specs.ExceptionTests.{outwards, thrown_at}
use Rattle.jr_flow_faults.specs.Reading.{IsTracing, completes_in, types_in}
use Rattle.jr_flow_faults.specs.Roots.{AreRoots}
use Rattle.jr_extract.specs.declared.run.Run.{Run}
use Rattle.jr_extract.specs.declared.thrown.Reading as code
use Rattle.jr_extract.specs.Running.{holds}

-- ---- which classes; `completes` tells of each row whether it can complete normally (JLS 14.21)

-- the row k is a statement of the run: it stands in it, and what is right round it does not
pub record IsStatementOf (p : Rows) (run : Run) (k : ℕ) : Type 0 where
  pub inside : holds run k ≡ true
  pub outside : holds run (parent p k) ≡ false

-- the class c, thrown at the row n, is thrown out of a statement of the run
pub record ComesOut (p : Rows) (t : Table) (completes : ℕ → Bool) (run : Run) (c n : ℕ) : Type 0 where
  pub row : ℕ
  pub statement : IsStatementOf p run row
  pub comes : ComesTo p t completes c n row

-- the checked class c is thrown at a row of the run, and comes out of that
pub record IsThrownOut (p : Rows) (t : Table) (completes : ℕ → Bool) (run : Run) (c : ℕ) : Type 0 where
  pub row : ℕ
  pub inside : holds run row ≡ true
  pub thrown : ThrownAt p t row c
  pub checked : IsChecked p t c
  pub comes : ComesOut p t completes run c row

-- ---- in which order

abbrev pub is_statement_of : Rows → Run → ℕ → Bool
is_statement_of p run k = holds run k && not (holds run (parent p k))

abbrev pub comes_out : Rows → Table → (ℕ → Bool) → Run → ℕ → ℕ → Bool
comes_out p t completes run c n = list_any (is_statement_of p run) (outwards p t completes c n)

abbrev pub is_thrown_out : Rows → Table → (ℕ → Bool) → Run → ℕ → ℕ → Bool
is_thrown_out p t completes run n c = is_checked p t c && comes_out p t completes run c n

-- with the class c behind others, if that is told
abbrev pub with_told : Bool → ℕ → List ℕ → List ℕ
with_told told c all = if told then all ++ c ∷ [] else all

-- and it is not among them
abbrev pub with_class : Bool → ℕ → List ℕ → List ℕ
with_class told c all = if has all c then all else with_told told c all

-- with those of a list that pass a test
abbrev pub with_classes : (ℕ → Bool) → List ℕ → List ℕ → List ℕ
with_classes test [] all = all
with_classes test (c ∷ rest) all = with_classes test rest (with_class (test c) c all)

-- with those that are thrown at the row n
abbrev pub with_thrown_at : Rows → Table → Types → (ℕ → Bool) → Run → ℕ → List ℕ → List ℕ
with_thrown_at p t type_of completes run n all = with_classes (is_thrown_out p t completes run n) (thrown_at p t type_of n) all

-- the classes that come out of the rows of the run among the first n, each where it is thrown first
abbrev pub thrown_below : Rows → Table → Types → (ℕ → Bool) → Run → ℕ → List ℕ
thrown_below p t type_of completes run zero = []
thrown_below p t type_of completes run (suc n) = let before = thrown_below p t type_of completes run n in
    if nat_le run.rows.first n then with_thrown_at p t type_of completes run n before else before

abbrev pub thrown_out : View → Run → List ℕ
thrown_out view run = thrown_below (rows_in view) (table_in view) (types_in view) (completes_in view) run run.rows.end

-- ---- of a view

-- they are the classes that are thrown out, in the order of the first rows at which they are thrown, and at one row in that in which what it calls declares them
pub record AreThrownOut (view : View) (run : Run) (thrown : List ℕ) : Type 0 where
  pub each : Lists thrown (IsThrownOut (rows_in view) (table_in view) (completes_in view) run)
  pub order : thrown ≡ thrown_out view run

-- ---- what is read of it

pub record IsReading (reading : code.Reading) : Type 0 where
  pub traced : IsTracing reading.trace.now
  pub roots : AreRoots (rows_in reading.trace.now.view.now) reading.roots

abbrev pub view_of : code.Reading → View
view_of reading = reading.trace.now.view.now

-- the class c, thrown at the row n, comes out of the run
abbrev pub leaves : code.Reading → ℕ → ℕ → Bool
leaves reading c n = comes_out (rows_in (view_of reading)) (table_in (view_of reading)) (completes_in (view_of reading)) reading.run c n

-- and is checked
abbrev pub is_told : code.Reading → ℕ → ℕ → Bool
is_told reading n c = is_thrown_out (rows_in (view_of reading)) (table_in (view_of reading)) (completes_in (view_of reading)) reading.run n c

abbrev pub with_row : code.Reading → ℕ → List ℕ → List ℕ
with_row reading n all = with_thrown_at (rows_in (view_of reading)) (table_in (view_of reading)) (types_in (view_of reading)) (completes_in (view_of reading)) reading.run n all
