-- What files read as, or the first reason why they are no program (JLS 3, 7.3).
use Rattle.std.specs.Prelude.{◌≡◌, ◌⊎◌, ℕ, zero, suc, ◌-◌, nat_lt, Bool, true, false, ◌||◌, ◌<◌, ◌^◌, List, [], ◌∷◌, ◌++◌, drop, length, map, Result, Ok, Err, None, Some, ⊤}
use Rattle.std.specs.FinMap as files
use Rattle.std.specs.List.{AllByRecursion}
use Rattle.jr_base.specs.Files.{FileMap}
use Rattle.jr_base.specs.Reading.{Lex}
use Rattle.jr_base.specs.declared.limits.Size.TheVariants as size
use Rattle.jr_base.specs.declared.limits.TheConstants.Limits as limits
use Rattle.jr_base.specs.declared.ids.CuId.{CuId}
use Rattle.jr_base.specs.declared.kind.Kind.{Kind}
use Rattle.jr_base.specs.declared.token.Token.{Token}
use Rattle.jr_escapes.specs.Escapes.{HasNoBadEscape, IsFirstBadEscape}
use Rattle.jr_lex.specs.Faults as lexing
use Rattle.jr_lex.specs.declared.fault.LexFault.{LexFault}
use Rattle.jr_lex.specs.declared.fault.LexFault.TheVariants.{BadEscape}
use Rattle.jr_parse.specs.Answers.{IsReading, Answers}
use Rattle.jr_parse.specs.declared.fault.ParseFault.{ParseFault}
use Rattle.jr_parse.specs.declared.fault.ParseFault.TheVariants as parsing
use Rattle.jr_tree.specs.declared.tree.Unit as declared
use Rattle.jr_defs.specs.declared.program.Program.{Program}
use Rattle.jr_defs.specs.declared.program.UnitAt.{UnitAt}
use Rattle.jr_defs.specs.Program.{ProgramOf, prelude_files}
use Rattle.jr_read.specs.Sizes.{first_too_large}
use Rattle.jr_read.specs.declared.fault.ReadFault.{ReadFault}
use Rattle.jr_read.specs.declared.fault.ReadFault.TheVariants as fault
use Rattle.jr_read.specs.declared.lexed.Lexed.{Lexed}

-- the files of all units, those of the prelude first
abbrev pub unit_files : FileMap → List (List ℕ × List ℕ)
unit_files found = prelude_files ++ files.entries found

-- the file with its tokens, and no bad escape in its comments (JLS 3.3)
pub record IsLexed (path bytes : List ℕ) (lexed : Lexed) : Type 0 where
  pub at : lexed.path ≡ path
  pub holds : lexed.bytes ≡ bytes
  pub reads : Lex bytes lexed.tokens
  pub plain : HasNoBadEscape bytes lexed.tokens

-- each file with its tokens, in their order
pub data AreLexed : List (List ℕ × List ℕ) → List Lexed → Type 0 where
  none : AreLexed [] []
  more : {path bytes : List ℕ} {one : Lexed} {found : List (List ℕ × List ℕ)} {all : List Lexed} → IsLexed path bytes one → AreLexed found all
      → AreLexed ((path, bytes) ∷ found) (one ∷ all)

-- the bytes have tokens, and the fault is the first bad escape in their comments (JLS 3.3)
pub record HasEscape (bytes : List ℕ) (why : LexFault) : Type 0 where
  pub tokens : List Token
  pub reads : Lex bytes tokens
  pub place : ℕ
  pub first : IsFirstBadEscape bytes tokens place
  pub tells : why ≡ BadEscape place

-- why bytes are no tokens, or else their first bad escape
abbrev pub IsFaultOf : List ℕ → LexFault → Type 0
IsFaultOf bytes why = lexing.IsFirstFault bytes why ⊎ HasEscape bytes why

-- why the bytes of the unit of this number are no tokens, or what escape they have
abbrev pub IsUnlexed : List ℕ → CuId → ReadFault → Type 0
IsUnlexed bytes cu (fault.Lex n why) = (n ≡ cu) × IsFaultOf bytes why
IsUnlexed bytes cu fault.OutOfMemory = Unit {0}
IsUnlexed bytes cu other = ⊥

-- the unit of the number n is the first whose bytes are no tokens, or have a bad escape
pub record IsFirstUnlexed (found : List (List ℕ × List ℕ)) (n : ℕ) (why : LexFault) : Type 0 where
  pub front : List (List ℕ × List ℕ)
  pub file : List ℕ × List ℕ
  pub rest : List (List ℕ × List ℕ)
  pub split : found ≡ front ++ file ∷ rest
  pub number : n ≡ length front
  pub lexed : List Lexed
  pub before : AreLexed front lexed
  pub fault : IsFaultOf file.1 why

-- the first unit whose bytes are no tokens, or have a bad escape
abbrev pub IsLexing : List (List ℕ × List ℕ) → ReadFault → Type 0
IsLexing found (fault.Lex cu why) = IsFirstUnlexed found cu.0 why
IsLexing found fault.OutOfMemory = Unit {0}
IsLexing found other = ⊥

-- of these files, which stand behind others, some are left, and all before them have their tokens
pub record AreLexedUpTo (front found : List (List ℕ × List ℕ)) (all : List Lexed) (rest : List (List ℕ × List ℕ)) : Type 0 where
  pub done : List (List ℕ × List ℕ)
  pub split : done ++ rest ≡ front ++ found
  pub lexed : AreLexed done all

abbrev pub kinds_of : Lexed → List Kind
kinds_of lexed = map (λ t. t.kind) lexed.tokens

-- the offset of a token, or of the end where there are not so many
abbrev pub offset_of : List Token → List ℕ → ℕ → ℕ
offset_of [] bytes number = length bytes
offset_of (token ∷ tokens) bytes zero = token.span.start
offset_of (token ∷ tokens) bytes (suc number) = offset_of tokens bytes number

-- the offset where the fault shows
abbrev pub offset_in : Lexed → ParseFault → ℕ
offset_in lexed (parsing.NoTree number) = offset_of lexed.tokens lexed.bytes number
offset_in lexed (parsing.TooDeep number) = offset_of lexed.tokens lexed.bytes number
offset_in lexed parsing.OutOfMemory = 0

-- each of them is a unit within the limit of levels
abbrev pub AreUnits : List Lexed → Type 0
AreUnits [] = ⊤
AreUnits (lexed ∷ all) = ((unit : declared.Unit) × IsReading limits.NESTING unit (kinds_of lexed)) × AreUnits all

-- the unit of the number n is the first whose tokens are no unit
pub record IsFirstUnparsed (lexed : List Lexed) (n : ℕ) (why : ParseFault) (at : ℕ) : Type 0 where
  pub front : List Lexed
  pub one : Lexed
  pub rest : List Lexed
  pub split : lexed ≡ front ++ one ∷ rest
  pub number : n ≡ length front
  pub before : AreUnits front
  pub fault : Answers limits.NESTING (kinds_of one) (Err why)
  pub place : at ≡ offset_in one why

-- why the tokens of the unit of this number are no unit
abbrev pub IsUnparsed : Lexed → CuId → ReadFault → Type 0
IsUnparsed lexed cu (fault.Parse n why at) = (n ≡ cu) × Answers limits.NESTING (kinds_of lexed) (Err why) × (at ≡ offset_in lexed why)
IsUnparsed lexed cu fault.OutOfMemory = Unit {0}
IsUnparsed lexed cu other = ⊥

-- the first unit whose tokens are no unit
abbrev pub IsParsing : List Lexed → ReadFault → Type 0
IsParsing lexed (fault.Parse cu why at) = IsFirstUnparsed lexed cu.0 why at
IsParsing lexed fault.OutOfMemory = Unit {0}
IsParsing lexed other = ⊥

-- the tree of a file with its tokens
pub record IsTreeOf (lexed : Lexed) (u : UnitAt) : Type 0 where
  pub at : u.path ≡ lexed.path
  pub holds : u.bytes ≡ lexed.bytes
  pub written : u.tokens ≡ lexed.tokens
  pub reading : IsReading limits.NESTING u.unit (kinds_of lexed)

-- the trees of them all, in their order
pub data AreTrees : List Lexed → List UnitAt → Type 0 where
  no_trees : AreTrees [] []
  more_trees : {lexed : Lexed} {u : UnitAt} {all : List Lexed} {units : List UnitAt} → IsTreeOf lexed u → AreTrees all units → AreTrees (lexed ∷ all) (u ∷ units)

-- they have more tokens than so many
abbrev pub passes : ℕ → List Lexed → Bool
passes most [] = false
passes most (lexed ∷ all) = nat_lt most (length lexed.tokens) || passes (most - length lexed.tokens) all

-- whether the files found, which stand behind the two units of the prelude, have more tokens than they may
abbrev pub have_too_many : List Lexed → Bool
have_too_many lexed = passes limits.TOKENS (drop 2 lexed)

-- what files with their tokens come to
abbrev pub ParsesAs : List Lexed → Result Program ReadFault → Type 0
ParsesAs lexed (Ok program) = (have_too_many lexed ≡ false) × AreTrees lexed program.units
ParsesAs lexed (Err (fault.TooLarge size.Tokens)) = have_too_many lexed ≡ true
ParsesAs lexed (Err (fault.TooLarge other)) = ⊥
ParsesAs lexed (Err (fault.Lex cu why)) = ⊥
ParsesAs lexed (Err (fault.Parse cu why at)) = (have_too_many lexed ≡ false) × IsFirstUnparsed lexed cu.0 why at
ParsesAs lexed (Err fault.OutOfMemory) = Unit {0}

-- what files come to, the sizes first, then tokens, their number, and trees; want of memory is free
pub data ReadsAs (found : FileMap) : Result Program ReadFault → Type 0 where
  oversized : {s : _} → first_too_large (files.entries found) ≡ Some s → ReadsAs found (Err (fault.TooLarge s))
  no_tokens : {cu : CuId} {why : LexFault} → first_too_large (files.entries found) ≡ None → IsFirstUnlexed (unit_files found) cu.0 why
      → ReadsAs found (Err (fault.Lex cu why))
  tokens : {lexed : List Lexed} → first_too_large (files.entries found) ≡ None → AreLexed (unit_files found) lexed → have_too_many lexed ≡ true
      → ReadsAs found (Err (fault.TooLarge size.Tokens))
  no_unit : {lexed : List Lexed} {cu : CuId} {why : ParseFault} {at : ℕ} → first_too_large (files.entries found) ≡ None → AreLexed (unit_files found) lexed
      → have_too_many lexed ≡ false → IsFirstUnparsed lexed cu.0 why at → ReadsAs found (Err (fault.Parse cu why at))
  program : {lexed : List Lexed} {p : Program} → first_too_large (files.entries found) ≡ None → AreLexed (unit_files found) lexed
      → have_too_many lexed ≡ false → ProgramOf found p → ReadsAs found (Ok p)
  memory : ReadsAs found (Err fault.OutOfMemory)

-- none of the files of a program that was read, and none of the prelude, has 2 ^ 32 bytes
abbrev pub ReadFilesAreSmall : Type 0
ReadFilesAreSmall = (found : FileMap) (program : Program) → ReadsAs found (Ok program) → AllByRecursion (λ file. length file.1 < 2 ^ 32) (unit_files found)
