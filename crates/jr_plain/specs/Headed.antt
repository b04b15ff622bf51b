-- What rows have besides being those of a tree, so that supertypes and members are computed by types alone.
use Rattle.std.specs.Prelude.{ℕ}
use Rattle.jr_tree.specs.Rows.{Rows}
use Rattle.jr_tree.specs.Tree.{IsTree}
use Rattle.jr_defs.specs.Declarations.{IsType}
use Rattle.jr_defs.specs.Headers.{NamesHeader}

-- the rows are those of a tree, and the names in headers stand below types
pub record IsHeaded (p : Rows) : Type 0 where
  pub tree : IsTree p
  pub header : (c n : ℕ) → NamesHeader p c n → IsType p c
