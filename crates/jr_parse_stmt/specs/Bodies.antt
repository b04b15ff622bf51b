-- The bodies of constructors, with the statements behind the first read in front of it (JLS 8.8.7).
use Rattle.std.specs.Prelude.{ℕ, ◌-◌, true, List}
use Rattle.jr_base.specs.declared.kind.Symbol.TheVariants as y
use Rattle.jr_tree.specs.Mirror.Stmts as s
use Rattle.jr_parse_laws.specs.Parsers.{Parser, ◌>>=◌, ◌>>◌, pure, expect, many, with_front}
use Rattle.jr_parse_defs.specs.Begins.{starts_block_stmt}
use Rattle.jr_parse_defs.specs.Stmts as rule
use Rattle.jr_parse_stmt.specs.Nests.{in_room}

-- statements behind these
abbrev pub more_stmts : ℕ → List s.Stmt → Parser (List s.Stmt)
more_stmts room front ts = with_front front (many starts_block_stmt (rule.stmt room true) ts)

-- where a statement has at least one level
abbrev pub ctor_block : ℕ → Parser s.Block
ctor_block room = do
  expect y.OpenBrace
  front ← in_room rule.ctor_first (room - 1)
  all ← more_stmts room front
  expect y.CloseBrace
  pure (s.BlockOf (s.stmts all))
