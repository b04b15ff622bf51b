-- A function that reads members of at most so many levels.
use Rattle.std.specs.Prelude.{ℕ, Result}
use Rattle.std.specs.declared.alloc.Global.{Global}
use denote.Ref.{MutBor}
use Rattle.jr_tree.specs.declared.tree.Member.{Member}
use Rattle.jr_tree.specs.Mirror.Decls.{plain_member}
use Rattle.jr_parse_laws.specs.declared.cursor.Cursor.{Cursor}
use Rattle.jr_parse_laws.specs.declared.fault.Fault.{Fault}
use Rattle.jr_parse_laws.specs.Parsers.{Reads, kinds}
use Rattle.jr_parse_defs.specs.Decls.{member}

pub record Nests (room : ℕ) (pre : Global → MutBor Cursor → ℕ → Type 0) (post : Global → MutBor Cursor → ℕ → Result Member Fault → MutBor Cursor → Type 0) : Type 0 where
  pub callable : (alloc : Global) (old : MutBor Cursor) → pre alloc old room
  pub reads : (alloc : Global) (old new : MutBor Cursor) (r : Result Member Fault) → post alloc old room r new → Reads plain_member (member room (kinds old.now)) r (kinds new.now)
