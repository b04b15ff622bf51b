-- What the laws of reading statements, declarations and units say: what is written is read, what is read is written, and reading stops at the first token that no tree allows (JLS 7, 8, 9, 14, 18).
use Rattle.std.specs.Prelude.{◌≡◌, ℕ, ◌≤◌, Bool, List, [], ◌++◌, Ok, Err}
use Rattle.jr_base.specs.declared.kind.Kind.{Kind}
use Rattle.jr_tree.specs.declared.tree.Unit as declared
use Rattle.jr_tree.specs.Mirror.Stmts as s
use Rattle.jr_tree.specs.Mirror.Decls as d
use Rattle.jr_tree.specs.Shape.{IsShaped, IsShapedBlock, IsShapedCtorBody, IsShapedDecl, IsShapedMember, IsShapedUnit}
use Rattle.jr_tree.specs.Depth.{block_depth, decl_depth, member_depth, unit_depth}
use Rattle.jr_tree.specs.Tokens.{tokens_of, stmt_tokens, unit_tokens}
use Rattle.jr_parse_laws.specs.declared.fault.Fault.{Fault}
use Rattle.jr_parse_laws.specs.Parsers.{first, ◌>>=◌}
use Rattle.jr_parse_laws.specs.Viable.{Stuck}
use Rattle.jr_parse_defs.specs.Stmts.{stmt, body, ctor_body}
use Rattle.jr_parse_defs.specs.Decls.{modifiers, member, decl, unit}
use Rattle.jr_parse_defs.specs.Writing.{write_stmt, write_block, write_decl, write_member, write_unit}
use Rattle.jr_parse_defs.specs.Follow.{StmtEnds, IsStmt}

-- ---- writing in front of a rest is writing out the tokens and then the rest

abbrev pub IsStmtWritten : Type 0
IsStmtWritten = (a : s.Stmt) (rest : List Kind) → write_stmt a rest ≡ stmt_tokens a ++ rest

abbrev pub IsUnitWritten : Type 0
IsUnitWritten = (u : d.CompilationUnit) (rest : List Kind) → write_unit u rest ≡ unit_tokens u ++ rest

-- ---- statements

pub record IsStmtRead (room : ℕ) (declares : Bool) (ts : List Kind) (read : s.Stmt × List Kind) : Type 0 where
  pub is : IsStmt room declares read.0
  pub written : ts ≡ write_stmt read.0 read.1
  pub ended : StmtEnds read.0 (first read.1)

abbrev pub IsStmtComplete : Type 0
IsStmtComplete = (room : ℕ) (declares : Bool) (a : s.Stmt) (rest : List Kind) → IsStmt room declares a → StmtEnds a (first rest) → stmt room declares (write_stmt a rest) ≡ Ok (a, rest)

abbrev pub IsStmtSound : Type 0
IsStmtSound = (room : ℕ) (declares : Bool) (ts : List Kind) (read : s.Stmt × List Kind) → stmt room declares ts ≡ Ok read → IsStmtRead room declares ts read

-- ---- the bodies of methods and constructors

pub record IsBodyRead (room : ℕ) (ts : List Kind) (read : s.Block × List Kind) : Type 0 where
  pub shaped : IsShapedBlock read.0
  pub low : block_depth read.0 ≤ room
  pub written : ts ≡ write_block read.0 read.1

abbrev pub IsBodyComplete : Type 0
IsBodyComplete = (room : ℕ) (b : s.Block) (rest : List Kind) → IsShapedBlock b → block_depth b ≤ room → body room (write_block b rest) ≡ Ok (b, rest)

abbrev pub IsBodySound : Type 0
IsBodySound = (room : ℕ) (ts : List Kind) (read : s.Block × List Kind) → body room ts ≡ Ok read → IsBodyRead room ts read

pub record IsCtorBodyRead (room : ℕ) (ts : List Kind) (read : s.Block × List Kind) : Type 0 where
  pub shaped : IsShapedCtorBody read.0
  pub low : block_depth read.0 ≤ room
  pub written : ts ≡ write_block read.0 read.1

abbrev pub IsCtorBodyComplete : Type 0
IsCtorBodyComplete = (room : ℕ) (b : s.Block) (rest : List Kind) → IsShapedCtorBody b → block_depth b ≤ room → ctor_body room (write_block b rest) ≡ Ok (b, rest)

abbrev pub IsCtorBodySound : Type 0
IsCtorBodySound = (room : ℕ) (ts : List Kind) (read : s.Block × List Kind) → ctor_body room ts ≡ Ok read → IsCtorBodyRead room ts read

-- ---- declarations of types and members

pub record IsMemberRead (room : ℕ) (ts : List Kind) (read : d.Member × List Kind) : Type 0 where
  pub shaped : IsShapedMember read.0
  pub low : member_depth read.0 ≤ room
  pub written : ts ≡ write_member read.0 read.1

abbrev pub IsMemberComplete : Type 0
IsMemberComplete = (room : ℕ) (m : d.Member) (rest : List Kind) → IsShapedMember m → member_depth m ≤ room → member room (write_member m rest) ≡ Ok (m, rest)

abbrev pub IsMemberSound : Type 0
IsMemberSound = (room : ℕ) (ts : List Kind) (read : d.Member × List Kind) → member room ts ≡ Ok read → IsMemberRead room ts read

pub record IsDeclRead (room : ℕ) (ts : List Kind) (read : d.TypeDecl × List Kind) : Type 0 where
  pub shaped : IsShapedDecl read.0
  pub low : decl_depth read.0 ≤ room
  pub written : ts ≡ write_decl read.0 read.1

abbrev pub IsDeclComplete : Type 0
IsDeclComplete = (room : ℕ) (t : d.TypeDecl) (rest : List Kind) → IsShapedDecl t → decl_depth t ≤ room → (modifiers >>= decl room) (write_decl t rest) ≡ Ok (t, rest)

abbrev pub IsDeclSound : Type 0
IsDeclSound = (room : ℕ) (ts : List Kind) (read : d.TypeDecl × List Kind) → (modifiers >>= decl room) ts ≡ Ok read → IsDeclRead room ts read

-- ---- units

pub record IsUnitRead (room : ℕ) (ts : List Kind) (read : d.CompilationUnit × List Kind) : Type 0 where
  pub shaped : IsShapedUnit read.0
  pub low : unit_depth read.0 ≤ room
  pub written : ts ≡ unit_tokens read.0
  pub ended : read.1 ≡ []

abbrev pub IsUnitComplete : Type 0
IsUnitComplete = (room : ℕ) (u : d.CompilationUnit) → IsShapedUnit u → unit_depth u ≤ room → unit room (unit_tokens u) ≡ Ok (u, [])

abbrev pub IsUnitSound : Type 0
IsUnitSound = (room : ℕ) (ts : List Kind) (read : d.CompilationUnit × List Kind) → unit room ts ≡ Ok read → IsUnitRead room ts read

-- ---- where a reader stops, what stands before the fault begins a tree, a deeper tree goes on where a level is missing, and the fault is the same whatever follows its token,
-- at each number of levels where no tree goes on

abbrev pub IsBlockOf : ℕ → s.Block → Type 0
IsBlockOf room b = IsShapedBlock b × (block_depth b ≤ room)

abbrev pub IsCtorBlockOf : ℕ → s.Block → Type 0
IsCtorBlockOf room b = IsShapedCtorBody b × (block_depth b ≤ room)

abbrev pub IsMemberOf : ℕ → d.Member → Type 0
IsMemberOf room m = IsShapedMember m × (member_depth m ≤ room)

abbrev pub IsDeclOf : ℕ → d.TypeDecl → Type 0
IsDeclOf room t = IsShapedDecl t × (decl_depth t ≤ room)

abbrev pub IsUnitOf : ℕ → d.CompilationUnit → Type 0
IsUnitOf room u = IsShapedUnit u × (unit_depth u ≤ room)

-- a statement, where there is a level for one
abbrev pub IsStmtStuck : Type 0
IsStmtStuck = (room : ℕ) (declares : Bool) (ts : List Kind) (f : Fault) (rest : List Kind) → 1 ≤ room → stmt room declares ts ≡ Err (f, rest)
    → Stuck (λ r. IsStmt r declares) write_stmt (λ r. stmt r declares) room ts f rest

abbrev pub IsBodyStuck : Type 0
IsBodyStuck = (room : ℕ) (ts : List Kind) (f : Fault) (rest : List Kind) → body room ts ≡ Err (f, rest) → Stuck IsBlockOf write_block body room ts f rest

abbrev pub IsCtorBodyStuck : Type 0
IsCtorBodyStuck = (room : ℕ) (ts : List Kind) (f : Fault) (rest : List Kind) → ctor_body room ts ≡ Err (f, rest) → Stuck IsCtorBlockOf write_block ctor_body room ts f rest

abbrev pub IsMemberStuck : Type 0
IsMemberStuck = (room : ℕ) (ts : List Kind) (f : Fault) (rest : List Kind) → 1 ≤ room → member room ts ≡ Err (f, rest) → Stuck IsMemberOf write_member member room ts f rest

abbrev pub IsDeclStuck : Type 0
IsDeclStuck = (room : ℕ) (ts : List Kind) (f : Fault) (rest : List Kind) → 1 ≤ room → (modifiers >>= decl room) ts ≡ Err (f, rest) → Stuck IsDeclOf write_decl (λ r. modifiers >>= decl r) room ts f rest

abbrev pub IsUnitStuck : Type 0
IsUnitStuck = (room : ℕ) (ts : List Kind) (f : Fault) (rest : List Kind) → 1 ≤ room → unit room ts ≡ Err (f, rest) → Stuck IsUnitOf write_unit unit room ts f rest

-- ---- one reading

-- units that are written alike are the same
abbrev pub OneReading : Type 0
OneReading = (a b : declared.Unit) → IsShaped a → IsShaped b → tokens_of a ≡ tokens_of b → a ≡ b
