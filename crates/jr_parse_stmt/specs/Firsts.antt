-- The parts of a `for`, each by how it begins (JLS 14.14.1).
use Rattle.std.specs.Prelude.{ℕ, suc, Bool, false, if◌then◌else◌, true, List, [], ◌∷◌, ◌++◌, Option, Some, None, Ok}
use Rattle.jr_base.specs.declared.text.Text.{Text}
use Rattle.jr_base.specs.declared.kind.Kind.{Kind}
use Rattle.jr_base.specs.declared.kind.Kind.TheVariants as kind
use Rattle.jr_base.specs.declared.kind.Symbol.TheVariants as y
use Rattle.jr_tree.specs.declared.tree.Name.{Name}
use Rattle.jr_tree.specs.declared.tree.Base.TheVariants as base
use Rattle.jr_tree.specs.Mirror.Exprs as x
use Rattle.jr_tree.specs.Mirror.Stmts as s
use Rattle.jr_parse_laws.specs.Parsers.{Parser, ◌>>=◌, ◌>>◌, pure, first, many, begins_with, after_comma, expect, identifier, is_at, optional}
use Rattle.jr_parse_starts.specs.Starts.{starts_expr, starts_effect, next_is}
use Rattle.jr_parse_expr.specs.Names.{name_of, type_of, type_use, dims, dotted, Plain}
use Rattle.jr_parse_expr.specs.Exprs.{Lead, Nothing, Named, Indexed, any_commas, expr, effect}
use Rattle.jr_parse_defs.specs.Begins.{begins_local}
use Rattle.jr_parse_defs.specs.Stmts as rule
use Rattle.jr_parse_defs.specs.Stmts.{finality, has_this}
use Rattle.jr_parse_stmt.specs.declared.named.NameEnd.{NameEnd}
use Rattle.jr_parse_stmt.specs.declared.named.NameEnd.TheVariants as end
use Rattle.jr_parse_stmt.specs.Begun.{behind}

abbrev pub is_name : Kind → Bool
is_name (kind.Ident name) = true
is_name _ = false

-- expressions that stand as statements, with commas between them
abbrev pub effects : ℕ → Lead → Parser (List x.Expr)
effects room lead = do
  e ← effect room lead
  others ← many (begins_with y.Comma) (after_comma (effect room Nothing))
  pure (e ∷ others)

module _ (room : ℕ) (inner : Parser s.Stmt) (outer : Parser s.Stmt) where
  -- variables of a type of arrays, at the close bracket of its first pair
  abbrev pub array_locals : Name → Parser s.ForInit
  array_locals n = behind (dims >>= (λ more. rule.locals room inner outer false (type_of (base.Named n) (suc more))))

  -- behind a name and an open bracket
  abbrev pub bracketed : Name → Parser s.ForInit
  bracketed n ts = if is_at y.CloseBracket ts then array_locals n ts else rule.first_effects room inner outer (Indexed n) ts

  -- behind a name
  abbrev pub plain_first : List Text → Text → NameEnd → Parser s.ForInit
  plain_first before last end.Name = rule.locals room inner outer false (type_of (base.Named (name_of (before ++ last ∷ []))) 0)
  plain_first before last end.Bracket = behind (bracketed (name_of (before ++ last ∷ [])))
  plain_first before last end.Colon = rule.first_effects room inner outer (Named (Plain before last))
  plain_first before last end.Other = rule.first_effects room inner outer (Named (Plain before last))

  -- at an identifier
  abbrev pub from_name : Parser s.ForInit
  from_name = identifier >>= (λ head. dotted (has_this room) [] head >>= rule.first_named room inner outer)

  -- at `final` or a primitive type
  abbrev pub typed : Parser (Option s.ForInit)
  typed = finality >>= (λ is_final. type_use >>= (λ ty. rule.locals room inner outer is_final ty >>= (λ i. pure (Some i))))

  -- by what comes next
  abbrev pub begun : Parser (Option s.ForInit)
  begun ts =
      if next_is is_name (first ts) then (from_name >>= (λ i. pure (Some i))) ts
      else (if next_is begins_local (first ts) then typed ts
      else (if starts_effect (first ts) then (rule.first_effects room inner outer Nothing >>= (λ i. pure (Some i))) ts
      else Ok (None, ts)))

  -- behind all that stands in parentheses
  abbrev pub for_body : Option s.ForInit → Option x.Expr → List x.Expr → Parser s.Stmt
  for_body i c update = inner >>= (λ body. pure (s.For i c (x.exprs update) body))

  -- behind the second semicolon
  abbrev pub for_update : Option s.ForInit → Option x.Expr → Parser s.Stmt
  for_update i c = do
    update ← any_commas starts_effect (effect room Nothing)
    expect y.CloseParen
    for_body i c update

  -- behind the first part
  abbrev pub for_cond : Option s.ForInit → Parser s.Stmt
  for_cond i = do
    expect y.Semicolon
    c ← optional starts_expr (expr room Nothing 0)
    expect y.Semicolon
    for_update i c
