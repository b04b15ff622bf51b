-- Which programs files are: the first rows are those of java.lang, units are shaped, and there is one program at most.
use Rattle.std.proofs.Common.{◌≡◌, ℕ, false, zero, suc, ◌+◌, ◌<◌, List, [], ◌∷◌, ◌++◌, map, length, get_or, refl, sym, ◌∙◌, ap, subst, arith}
use Rattle.std.proofs.Math.ListN.{get_or-append}
use Rattle.std.proofs.lemmas.List.{append-nil}
use Rattle.std.specs.List.{AllByRecursion}
use Rattle.jr_base.specs.Files.{FileMap}
use Rattle.jr_base.specs.declared.token.Token.{Token}
use Rattle.jr_tree.specs.declared.tree.Unit as declared_unit
use Rattle.jr_tree.specs.Mirror.Decls as d
use Rattle.jr_tree.specs.Shape.{IsShaped}
use Rattle.jr_tree.specs.declared.label.Label.TheVariants as is
use Rattle.jr_tree.specs.declared.row.Row.{Row}
use Rattle.jr_tree.specs.Forest.{Forest, none, size, node, if_some, each}
use Rattle.jr_tree.specs.Decls.{package_labels, import_labels, decl_labels, unit_labels}
use Rattle.jr_tree.specs.Rows.{Rows, row, rows_from, program_rows}
use Rattle.jr_tree.proofs.Trees.{each_program_is_tree}
use Rattle.jr_defs.specs.declared.program.UnitAt.{UnitAt}
use Rattle.jr_defs.specs.declared.program.Program.{Program}
use Rattle.jr_defs.specs.Prelude.{lang_text, io_text}
use Rattle.jr_defs.specs.Program.{ReadsAs, IsUnitOf, AreUnitsOf, none as no_units, more as more_units, ProgramOf, rows_of}
use Rattle.jr_prelude.specs.Io.{io_unit}
use Rattle.jr_prelude.specs.Lang.{lang_unit}
use Rattle.jr_prelude.specs.Begins.{lang_rows, BeginsWithLang}
use Rattle.jr_prelude.specs.Laws.{Reads, IsReadable}
use Rattle.jr_prelude.specs.Numbers.{HasMachineNumbers}
use Rattle.jr_prelude.proofs.MachineNumbers.{with_prelude}

-- ---- the rows of the first unit are those of that unit alone

-- the rows of one unit with this below it, before others
abbrev rows_with : Forest → Forest → Rows
rows_with kids rest = rows_from 0 0 0 (node is.Program (node is.Unit kids rest) none)

module _ (kids rest : Forest) where
  here : (xs ys : Rows) (k : ℕ) (d : Row) → k < length xs → get_or ((xs ++ ys) ++ []) k d ≡ get_or ((xs ++ []) ++ []) k d
  here xs ys k d l =
      let left : (xs ++ ys) ++ [] ≡ xs ++ ys = append-nil (xs ++ ys) in
      let right : (xs ++ []) ++ [] ≡ xs = append-nil (xs ++ []) ∙ append-nil xs in
      ap (λ zs. get_or zs k d) left ∙ get_or-append xs ys d k l ∙ ap (λ zs. get_or zs k d) (sym right)

  alone : (n : ℕ) → 0 < n → n < length (rows_with kids none) → row (rows_with kids rest) n ≡ row (rows_with kids none) n
  alone zero some low = absurd (omega arith)
  alone (suc zero) some low = refl
  alone (suc (suc k)) some low =
      let xs = rows_from 1 1 2 kids in
      let all : length ((xs ++ []) ++ []) ≡ length xs = ap length (append-nil (xs ++ []) ∙ append-nil xs) in
      let fits : k < length xs = omega arith in
      here xs (rows_from 0 1 (1 + 1 + size kids) rest) k (record { label = is.Skip; name = []; parent = suc (suc k); end = suc (suc k) + 1; previous = suc (suc k) }) fits

unit_alone : (u : d.CompilationUnit) (rest : Forest) (n : ℕ) → 0 < n → n < length (rows_from 0 0 0 (node is.Program (unit_labels u none) none))
    → row (rows_from 0 0 0 (node is.Program (unit_labels u rest) none)) n ≡ row (rows_from 0 0 0 (node is.Program (unit_labels u none) none)) n
unit_alone (d.UnitOf package_decl imports types) rest =
    alone (if_some package_labels package_decl (each import_labels imports (each (decl_labels false) types none))) rest

-- rows of a program whose first unit is that of java.lang
pub begins_with : (unit : declared_unit.Unit) (others : List declared_unit.Unit) → d.plain_unit unit ≡ lang_unit → BeginsWithLang (program_rows (unit ∷ others))
begins_with unit others e = record {
  tree = each_program_is_tree (unit ∷ others);
  rows = λ n some low. subst (λ u. row (rows_from 0 0 0 (node is.Program (unit_labels u (each (λ v. unit_labels (d.plain_unit v)) others none)) none)) n ≡ row lang_rows n) (sym e)
      (unit_alone lang_unit (each (λ v. unit_labels (d.plain_unit v)) others none) n some low);
}

-- ---- programs of files

pub record FirstUnit (path bytes : List ℕ) (units : List UnitAt) : Type 0 where
  pub unit : UnitAt
  pub others : List UnitAt
  pub are : units ≡ unit ∷ others
  pub is : IsUnitOf path bytes unit

pub first_of : {path bytes : List ℕ} {found : List (List ℕ × List ℕ)} {units : List UnitAt} → AreUnitsOf ((path, bytes) ∷ found) units → FirstUnit path bytes units
first_of (more_units {u = u} {units = units} h all) = record { unit = u; others = units; are = refl; is = h }

record FirstUnits (path bytes next_path next_bytes : List ℕ) (units : List UnitAt) : Type 0 where
  pub unit : UnitAt
  pub next : UnitAt
  pub others : List UnitAt
  pub are : units ≡ unit ∷ (next ∷ others)
  pub is : IsUnitOf path bytes unit
  pub next_is : IsUnitOf next_path next_bytes next

first_two : {path bytes next_path next_bytes : List ℕ} {found : List (List ℕ × List ℕ)} {units : List UnitAt}
    → AreUnitsOf ((path, bytes) ∷ ((next_path, next_bytes) ∷ found)) units → FirstUnits path bytes next_path next_bytes units
first_two (more_units {u = u} h (more_units {u = v} {units = units} k all)) = record { unit = u; next = v; others = units; are = refl; is = h; next_is = k }

pub all_shaped : {found : List (List ℕ × List ℕ)} {units : List UnitAt} → AreUnitsOf found units → AllByRecursion IsShaped (map (λ u. u.unit) units)
all_shaped no_units = tt
all_shaped (more_units h all) = (h.reads.shaped, all_shaped all)

pub program_begins : Reads lang_text lang_unit → (found : FileMap) (program : Program) → ProgramOf found program → BeginsWithLang (rows_of program)
program_begins reads found program h =
    let first = first_of h in
    subst (λ units. BeginsWithLang (program_rows (map (λ (u : UnitAt). u.unit) units))) (sym first.are)
    (begins_with first.unit.unit (map (λ (u : UnitAt). u.unit) first.others) (reads.one first.unit.tokens first.unit.unit first.is.reads))

pub program_has_numbers : Reads lang_text lang_unit → Reads io_text io_unit → (found : FileMap) (program : Program) → ProgramOf found program
    → HasMachineNumbers (rows_of program)
program_has_numbers lang io found program h =
    let first = first_two h in
    subst (λ units. HasMachineNumbers (program_rows (map (λ (u : UnitAt). u.unit) units))) (sym first.are)
    (with_prelude first.unit.unit first.next.unit (map (λ (u : UnitAt). u.unit) first.others)
    (lang.one first.unit.tokens first.unit.unit first.is.reads) (io.one first.next.tokens first.next.unit first.next_is.reads))

-- ---- which program files are

pub units_of : (found : List (List ℕ × List ℕ)) → AllByRecursion IsReadable found → (units : List UnitAt) × AreUnitsOf found units
units_of [] all = ([], no_units)
units_of (file ∷ found) all =
    let read = all.0 in
    let rest = units_of found all.1 in (
      record { path = file.0; bytes = file.1; tokens = read.0; unit = read.1 } ∷ rest.0,
      more_units {path = file.0} {bytes = file.1} (record { at = refl; holds = refl; reads = read.2 }) rest.1,
    )

same_unit : (u v : UnitAt) → u.path ≡ v.path → u.bytes ≡ v.bytes → u.tokens ≡ v.tokens → u.unit ≡ v.unit → u ≡ v
same_unit u v path bytes tokens unit =
    ap (λ p. record u { path = p }) path ∙ ap (λ b. record u { path = v.path; bytes = b }) bytes
    ∙ ap (λ ts. record v { tokens = ts; unit = u.unit }) tokens ∙ ap (λ w. record v { unit = w }) unit

module _ (tokens_one : (bytes : List ℕ) (ts us : List Token) (a b : declared_unit.Unit) → ReadsAs bytes ts a → ReadsAs bytes us b → ts ≡ us)
    (unit_one : (bytes : List ℕ) (ts us : List Token) (a b : declared_unit.Unit) → ReadsAs bytes ts a → ReadsAs bytes us b → a ≡ b) where
  same_read : {path bytes : List ℕ} (u v : UnitAt) → IsUnitOf path bytes u → IsUnitOf path bytes v → u ≡ v
  same_read {bytes = bytes} u v h k = same_unit u v (h.at ∙ sym k.at) (h.holds ∙ sym k.holds)
      (tokens_one bytes u.tokens v.tokens u.unit v.unit h.reads k.reads) (unit_one bytes u.tokens v.tokens u.unit v.unit h.reads k.reads)

  pub same_units : {found : List (List ℕ × List ℕ)} {units others : List UnitAt} → AreUnitsOf found units → AreUnitsOf found others → units ≡ others
  same_units no_units no_units = refl
  same_units (more_units {u = u} {units = us} h all) (more_units {u = v} {units = vs} k rest) =
      ap (λ w. w ∷ us) (same_read u v h k) ∙ ap (λ ws. v ∷ ws) (same_units all rest)
