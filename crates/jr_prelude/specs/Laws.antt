-- The laws of the prelude.
use Rattle.std.specs.Prelude.{◌≡◌, ℕ, List, map}
use Rattle.std.specs.FinMap as files
use Rattle.std.specs.List.{AllByRecursion}
use Rattle.jr_base.specs.Files.{FileMap}
use Rattle.jr_base.specs.Reading.{Lex}
use Rattle.jr_base.specs.declared.text.Text.{Text}
use Rattle.jr_base.specs.declared.token.Token.{Token}
use Rattle.jr_tree.specs.declared.tree.Unit as declared_unit
use Rattle.jr_tree.specs.Mirror.Decls as d
use Rattle.jr_tree.specs.Tokens.{unit_tokens}
use Rattle.jr_tree.specs.Rows.{Rows}
use Rattle.jr_defs.specs.declared.program.Program.{Program}
use Rattle.jr_defs.specs.Binding.{IsBinding}
use Rattle.jr_defs.specs.Declarations.{IsPrelude, IsObject, IsString}
use Rattle.jr_defs.specs.Modifiers.{IsFinal}
use Rattle.jr_defs.specs.Program.{ReadsAs, ProgramOf, rows_of}
use Rattle.jr_defs.specs.Referents.{Table}

-- ---- the texts of the prelude

-- the tokens of the text are those of the tree, it reads as a unit, and each that it reads as is the tree
pub record Reads (text : List ℕ) (tree : d.CompilationUnit) : Type 0 where
  pub tokens : (tokens : List Token) → Lex text tokens → map (λ t. t.kind) tokens ≡ unit_tokens tree
  pub some : (tokens : List Token) × (unit : declared_unit.Unit) × ReadsAs text tokens unit
  pub one : (tokens : List Token) (unit : declared_unit.Unit) → ReadsAs text tokens unit → d.plain_unit unit ≡ tree

-- ---- programs of files

-- the bytes of the file, which stand behind its path, read as a unit
abbrev pub IsReadable : List ℕ × List ℕ → Type 0
IsReadable file = (tokens : List Token) × (unit : declared_unit.Unit) × ReadsAs file.1 tokens unit

-- files that each read as a unit are a program
abbrev pub FilesAreProgram : Type 0
FilesAreProgram = (found : FileMap) → AllByRecursion IsReadable (files.entries found) → (program : Program) × ProgramOf found program

-- and files are one program at most
abbrev pub FilesAreOneProgram : Type 0
FilesAreOneProgram = (found : FileMap) (p q : Program) → ProgramOf found p → ProgramOf found q → p ≡ q

-- what holds of the rows of each program of files
abbrev pub OfFiles : (Rows → Type 0) → Type 0
OfFiles P = (found : FileMap) (program : Program) → ProgramOf found program → P (rows_of program)

-- no two types of java.lang have one name
abbrev pub NamesTypesOnce : Rows → Type 0
NamesTypesOnce p = (x : Text) (c d : ℕ) → IsPrelude p x c → IsPrelude p x d → c ≡ d

-- there is one Object
abbrev pub HasOneObject : Rows → Type 0
HasOneObject p = (c : ℕ) × IsObject p c × ((d : ℕ) → IsObject p d → d ≡ c)

-- there is one String, which is final
abbrev pub HasOneString : Rows → Type 0
HasOneString p = (c : ℕ) × IsString p c × IsFinal p c × ((d : ℕ) → IsString p d → d ≡ c)

-- a program has at most one binding
abbrev pub HasOneBinding : Rows → Type 0
HasOneBinding p = (t u : Table) → IsBinding p t → IsBinding p u → (o : ℕ) → t o ≡ u o
