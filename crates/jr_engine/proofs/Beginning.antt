-- What is read with the prelude before it begins with java.lang, also where two files have one path.
use Rattle.std.proofs.Common.{ℕ, List, ◌++◌, map, sym, subst}
use Rattle.jr_tree.specs.Rows.{program_rows}
use Rattle.jr_defs.specs.declared.program.UnitAt.{UnitAt}
use Rattle.jr_defs.specs.Program.{AreUnitsOf, prelude_files}
use Rattle.jr_prelude.specs.Begins.{BeginsWithLang}
use Rattle.jr_prelude.proofs.Programs.{begins_with, first_of}
use Rattle.jr_prelude.proofs.Readings.{lang_reads}

-- the units of the prelude and of others begin with java.lang
pub units_begin : (rest : List (List ℕ × List ℕ)) (units : List UnitAt) → AreUnitsOf (prelude_files ++ rest) units → BeginsWithLang (program_rows (map (λ u. u.unit) units))
units_begin rest units h =
    let first = first_of h in
    subst (λ units. BeginsWithLang (program_rows (map (λ (u : UnitAt). u.unit) units))) (sym first.are)
    (begins_with first.unit.unit (map (λ (u : UnitAt). u.unit) first.others) (lang_reads.one first.unit.tokens first.unit.unit first.is.reads))
