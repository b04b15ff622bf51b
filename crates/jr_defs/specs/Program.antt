-- The program of the files, and where units stand (JLS 7.2, 7.3).
use Rattle.std.specs.Prelude.{◌≡◌, ◌≢◌, ℕ, ◌≤◌, Bool, List, [], ◌∷◌, ◌++◌, map, Contains, codes, IsTrue, Option, Some, None, ⊤}
use Rattle.std.specs.FinMap as files
use Rattle.jr_base.specs.Files.{FileMap}
use Rattle.jr_base.specs.Reading.{Lex}
use Rattle.jr_base.specs.declared.text.Text.{Text}
use Rattle.jr_base.specs.declared.token.Token.{Token}
use Rattle.jr_tree.specs.declared.tree.Unit.{Unit}
use Rattle.jr_tree.specs.declared.tree.PackageDecl.{PackageDecl}
use Rattle.jr_tree.specs.declared.tree.Modifier.TheVariants as modifier
use Rattle.jr_tree.specs.Mirror.Decls as d
use Rattle.jr_tree.specs.Tokens.{tokens_of}
use Rattle.jr_tree.specs.Shape.{IsShaped}
use Rattle.jr_tree.specs.Depth.{depth}
use Rattle.jr_tree.specs.Rows.{Rows, program_rows}
use Rattle.jr_defs.specs.declared.program.UnitAt.{UnitAt}
use Rattle.jr_defs.specs.declared.program.Program.{Program}
use Rattle.jr_defs.specs.Prelude.{lang_text, io_text}

-- the bytes read as the tokens, and those are the unit's, which is shaped and not too deep
pub record ReadsAs (bytes : List ℕ) (tokens : List Token) (unit : Unit) : Type 0 where
  pub lexed : Lex bytes tokens
  pub written : map (λ t. t.kind) tokens ≡ tokens_of unit
  pub shaped : IsShaped unit
  pub shallow : depth unit ≤ 256

-- the unit of a file
pub record IsUnitOf (path : List ℕ) (bytes : List ℕ) (u : UnitAt) : Type 0 where
  pub at : u.path ≡ path
  pub holds : u.bytes ≡ bytes
  pub reads : ReadsAs bytes u.tokens u.unit

-- a unit for each file, in their order
pub data AreUnitsOf : List (List ℕ × List ℕ) → List UnitAt → Type 0 where
  none : AreUnitsOf [] []
  more : {path bytes : List ℕ} {u : UnitAt} {found : List (List ℕ × List ℕ)} {units : List UnitAt} → IsUnitOf path bytes u → AreUnitsOf found units
      → AreUnitsOf ((path, bytes) ∷ found) (u ∷ units)

-- the units of the prelude, before all others
abbrev pub prelude_files : List (List ℕ × List ℕ)
prelude_files = (codes "prelude/0", lang_text) ∷ (codes "prelude/1", io_text) ∷ []

-- the program of the files: the prelude, and then the unit that each file reads as, in the order of their paths
abbrev pub ProgramOf : FileMap → Program → Type 0
ProgramOf found program = AreUnitsOf (prelude_files ++ files.entries found) program.units

-- the rows of a program
abbrev pub rows_of : Program → Rows
rows_of program = program_rows (map (λ u. u.unit) program.units)

-- ---- where a unit stands

abbrev pub package_path : Option PackageDecl → List Text
package_path None = []
package_path (Some p) = p.name.parts

-- the folder of a package, with a slash behind each part
abbrev pub folder : List Text → List ℕ
folder [] = []
folder (part ∷ parts) = part ++ (codes "/" ++ folder parts)

-- a public type has the name of its file (JLS 7.6)
abbrev pub HasFileName : List ℕ → d.TypeDecl → Type 0
HasFileName file (d.Class mods x parent faces body) = Contains mods modifier.Public → x ≡ file
HasFileName file (d.Interface mods x faces body) = Contains mods modifier.Public → x ≡ file
HasFileName file d.Empty = ⊤

abbrev pub HaveFileName : List ℕ → List d.TypeDecl → Type 0
HaveFileName file [] = ⊤
HaveFileName file (x ∷ xs) = HasFileName file x × HaveFileName file xs

-- a unit of the package a.b stands at a/b/F.java, one of the unnamed package at F.java, and each of its public types is F
pub record IsUnitPlaced (u : UnitAt) : Type 0 where
  pub file : List ℕ
  pub plain_file : Contains file 47 → ⊥
  pub stands : u.path ≡ folder (package_path u.unit.package) ++ (file ++ codes ".java")
  pub named : HaveFileName file (d.plain_decls u.unit.types)

abbrev pub AllPlaced : List UnitAt → Type 0
AllPlaced [] = ⊤
AllPlaced (u ∷ us) = IsUnitPlaced u × AllPlaced us

-- each unit behind the two of the prelude is well placed
abbrev pub AllPlacedBehind : List UnitAt → Type 0
AllPlacedBehind (lang ∷ (io ∷ units)) = AllPlaced units
AllPlacedBehind _ = ⊥

abbrev pub IsWellPlaced : Program → Type 0
IsWellPlaced program = AllPlacedBehind program.units
