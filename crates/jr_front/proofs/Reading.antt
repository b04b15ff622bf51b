-- What was read is shaped, and its tokens stand apart.
use Rattle.std.proofs.Common.{◌≡◌, ◌≤◌, ◌++◌, List, ℕ, suc, length, map, Result, Ok, Err, IfOk, IfErr, OnOk, sym, subst, refl, arith}
use Rattle.std.specs.FinMap as files
use Rattle.std.specs.List.{AllByRecursion}
use Rattle.jr_base.specs.Files.{FileMap}
use Rattle.jr_tree.specs.Shape.{IsShaped}
use Rattle.jr_defs.specs.Program.{AreUnitsOf, IsWellPlaced, none, more, prelude_files, rows_of}
use Rattle.jr_marks.specs.Made.{HaveTokensApart}
use Rattle.jr_ordered.proofs.Lexed.{units_apart}
use Rattle.jr_prelude.specs.Begins.{BeginsWithLang}
use Rattle.jr_prelude.proofs.Readings.{programs_begin}
use Rattle.jr_index.specs.Marking.{program_marks}
use Rattle.jr_front.specs.Bound.{table_in, IsIndexed}
use Rattle.jr_defs.specs.declared.program.Program.{Program}
use Rattle.jr_defs.specs.declared.program.UnitAt.{UnitAt}
use Rattle.jr_read.specs.Reading.{ReadsAs, unit_files, program as one_program}
use Rattle.jr_read.proofs.Limits.{files_small}
use Rattle.jr_front.specs.Checking.{CheckedAs, accepted, refused, forgotten}
use Rattle.jr_front.specs.Compiling.{KeepsAllRules, Compiles}
use Rattle.jr_front.specs.Refusing.{IsRefusal}
use Rattle.jr_front.specs.declared.fault.FrontFault.{FrontFault}
use Rattle.jr_front.specs.declared.workspace.Workspace.{Workspace}

units_shaped : {found : List (List ℕ × List ℕ)} {units : List UnitAt} → AreUnitsOf found units → AllByRecursion IsShaped (map (λ u. u.unit) units)
units_shaped none = tt
units_shaped (more is rest) = (is.reads.shaped, units_shaped rest)

pub read_shaped : (found : FileMap) (p : Program) → ReadsAs found (Ok p) → AllByRecursion IsShaped (map (λ u. u.unit) p.units)
read_shaped found p (one_program few are within units) = units_shaped units

two_files : (rest : List (List ℕ × List ℕ)) → 2 ≤ length (prelude_files ++ rest)
two_files rest = let count : length (prelude_files ++ rest) ≡ suc (suc (length rest)) = refl in omega (arith, count)

pub read_apart : (found : FileMap) (p : Program) → ReadsAs found (Ok p) → HaveTokensApart p.units
read_apart found p (one_program few are within units) = units_apart (unit_files found) p.units units (files_small found p (one_program few are within units)) (two_files (files.entries found))

-- files that are read and opened compile
compiles_by : (found : FileMap) (p : Program) (w : Workspace) → ReadsAs found (Ok p) → IsWellPlaced p → KeepsAllRules p (table_in w) → Compiles found p (table_in w)
compiles_by found p w (one_program few are within units) placed kept = record { marks = kept.marks; are = kept.are; compiles = record { reads = units; placed = placed; keeps = kept.keeps } }

-- what is said of files, by what is said of their program
pub opened : (found : FileMap) (p : Program) (result : Result Workspace FrontFault) → ReadsAs found (Ok p) → IfErr result (IsRefusal p) → OnOk result (IsWellPlaced p)
    → IfOk result (λ workspace. KeepsAllRules p (table_in workspace)) → CheckedAs found (forgotten result)
opened found p (Ok workspace) reads is placed kept = accepted reads (compiles_by found p workspace reads placed kept)
opened found p (Err why) reads is placed kept = refused reads is

pub compiled : (found : FileMap) (p : Program) (result : Result Workspace FrontFault) → ReadsAs found (Ok p) → IfOk result (λ workspace. workspace.program ≡ p) → OnOk result (IsWellPlaced p)
    → IfOk result (λ workspace. KeepsAllRules p (table_in workspace)) → IfOk result (λ workspace. Compiles found workspace.program (table_in workspace))
compiled found p (Ok workspace) reads program placed kept = subst (λ (q : Program). Compiles found q (table_in workspace)) (sym program) (compiles_by found p workspace reads placed kept)
compiled found p (Err why) reads program placed kept = tt

-- its index has its rows and marks
pub indexed_program : (found : FileMap) (p : Program) (result : Result Workspace FrontFault) → ReadsAs found (Ok p) → IfOk result (λ workspace. workspace.program ≡ p)
    → IfOk result (λ workspace. workspace.index.value.rows ≡ rows_of p) → IfOk result (λ workspace. workspace.index.value.marks ≡ program_marks (map (λ (u : UnitAt). u.unit) p.units))
    → IfOk result (λ workspace. IsIndexed workspace.program workspace.index.value)
indexed_program found p (Ok workspace) reads same rows marks = subst (λ (q : Program). IsIndexed q workspace.index.value) (sym same)
    (record { shaped = read_shaped found p reads; apart = read_apart found p reads; rows = rows; marks = marks })
indexed_program found p (Err why) reads same rows marks = tt

-- its rows begin with those of java.lang
pub read_begins : (found : FileMap) (p : Program) → ReadsAs found (Ok p) → BeginsWithLang (rows_of p)
read_begins found p (one_program few are within units) = programs_begin found p units

pub opened_program : (found : FileMap) (p : Program) (result : Result Workspace FrontFault) → ReadsAs found (Ok p) → IfOk result (λ workspace. workspace.program ≡ p)
    → IfOk result (λ workspace. ReadsAs found (Ok workspace.program))
opened_program found p (Ok workspace) reads same = subst (λ (q : Program). ReadsAs found (Ok q)) (sym same) reads
opened_program found p (Err why) reads same = tt
