-- A function that reads statements of at most so many levels, and rules over it.
use Rattle.std.specs.Prelude.{ℕ, Bool, true, false, Result}
use Rattle.std.specs.declared.alloc.Global.{Global}
use denote.Ref.{MutBor}
use Rattle.jr_tree.specs.declared.tree.Stmt.{Stmt}
use Rattle.jr_tree.specs.Mirror.Stmts as s
use Rattle.jr_tree.specs.Mirror.Stmts.{plain_stmt}
use Rattle.jr_parse_laws.specs.declared.cursor.Cursor.{Cursor}
use Rattle.jr_parse_laws.specs.declared.fault.Fault.{Fault}
use Rattle.jr_parse_laws.specs.Parsers.{Parser, Reads, kinds}
use Rattle.jr_parse_defs.specs.Stmts.{stmt}

pub record Nests (room : ℕ) (pre : Global → MutBor Cursor → ℕ → Bool → Type 0) (post : Global → MutBor Cursor → ℕ → Bool → Result Stmt Fault → MutBor Cursor → Type 0) : Type 0 where
  pub callable : (alloc : Global) (old : MutBor Cursor) (declares : Bool) → pre alloc old room declares
  pub reads : (alloc : Global) (old new : MutBor Cursor) (declares : Bool) (r : Result Stmt Fault) → post alloc old room declares r new
      → Reads plain_stmt (stmt room declares (kinds old.now)) r (kinds new.now)

-- a rule whose parts have at most so many levels
abbrev pub in_room : {A : Type 0} → (ℕ → Parser s.Stmt → Parser s.Stmt → A) → ℕ → A
in_room rule room = rule room (stmt room false) (stmt room true)
