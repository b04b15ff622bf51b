-- Reading statements (JLS 14). Each reader takes no token that no tree allows there.
use Rattle.std.specs.Prelude.{ℕ, zero, suc, Bool, true, false, ◌&&◌, not, nat_lt, if◌then◌else◌, List, [], ◌∷◌, ◌++◌, Option, Some, None, Ok}
use Rattle.jr_base.specs.declared.text.Text.{Text}
use Rattle.jr_base.specs.declared.kind.Kind.{Kind}
use Rattle.jr_base.specs.declared.kind.Kind.TheVariants as kind
use Rattle.jr_base.specs.declared.kind.Symbol.{Symbol}
use Rattle.jr_base.specs.declared.kind.Symbol.TheVariants as y
use Rattle.jr_base.specs.declared.kind.Keyword.{Keyword}
use Rattle.jr_base.specs.declared.kind.Keyword.TheVariants as k
use Rattle.jr_tree.specs.declared.tree.Base.TheVariants as base
use Rattle.jr_tree.specs.declared.tree.TypeUse.{TypeUse}
use Rattle.jr_tree.specs.declared.tree.Param.{Param}
use Rattle.jr_tree.specs.declared.tree.ThisOrSuper.{ThisOrSuper}
use Rattle.jr_tree.specs.declared.tree.ThisOrSuper.TheVariants as which
use Rattle.jr_tree.specs.Mirror.Exprs as x
use Rattle.jr_tree.specs.Mirror.Stmts as s
use Rattle.jr_parse_laws.specs.Parsers.{Parser, ◌>>=◌, ◌>>◌, pure, refuse, expect, expect_word, identifier, many, begins_with, commas, after_comma, is_at, is_at_word, optional}
use Rattle.jr_parse_starts.specs.Starts.{starts_expr, starts_effect, no_level, within, next_is}
use Rattle.jr_parse_expr.specs.Names.{name_of, type_of, dims, name, type_use, Dotted, Plain, Enclosing, dotted}
use Rattle.jr_parse_expr.specs.Exprs.{Lead, Nothing, Named, Indexed, This, Super, next_token, skipping, any_commas, arguments, expr, list, effect, init}
use Rattle.jr_parse_defs.specs.Begins.{begins_local, starts_stmt, starts_block_stmt, starts_label, is_catch}

-- ---- declarations of variables (JLS 8.3, 14.4)

-- a sign of equality forces a part
abbrev pub initializer : ℕ → Parser (Option x.Init)
initializer room ts = if is_at y.Assign ts then next_token (λ token. within 1 room token (init room >>= (λ i. pure (Some i)))) ts else Ok (None, ts)

-- behind the variable's name
unfoldable pub declarator_after : ℕ → Text → Parser s.Declarator
declarator_after room variable = do
  pairs ← dims
  i ← initializer room
  pure (s.DeclaratorOf variable pairs i)

abbrev pub declarator : ℕ → Parser s.Declarator
declarator room = identifier >>= declarator_after room

abbrev pub declarators : ℕ → Parser (List s.Declarator)
declarators room = commas (declarator room)

-- behind the first variable's name
unfoldable pub declarators_after : ℕ → Text → Parser (List s.Declarator)
declarators_after room variable = do
  d ← declarator_after room variable
  others ← many (begins_with y.Comma) (after_comma (declarator room))
  pure (d ∷ others)

abbrev pub finality : Parser Bool
finality ts = if is_at_word k.Final ts then skipping (pure true) ts else Ok (false, ts)

-- ---- parameters (JLS 8.4.1, 14.20)

abbrev pub param_of : Bool → TypeUse → Text → ℕ → Param
param_of is_final ty name pairs = record { is_final = is_final; ty = ty; name = name; dims = pairs }

unfoldable pub param : Parser Param
param = do
  is_final ← finality
  ty ← type_use
  variable ← identifier
  pairs ← dims
  pure (param_of is_final ty variable pairs)

-- ---- statements

-- whether an expression that stands as a statement may begin with `this`: it is more than that word
abbrev pub has_this : ℕ → Bool
has_this room = not (nat_lt room 2)

abbrev pub condition : ℕ → Parser x.Expr
condition room = do
  expect y.OpenParen
  c ← expr room Nothing 0
  expect y.CloseParen
  pure c

abbrev pub label : Parser (Option Text)
label ts = next_label ts
  where
    next_label : Parser (Option Text)
    next_label (kind.Ident name ∷ us) = Ok (Some name, us)
    next_label us = Ok (None, us)

-- inner reads a statement of at most room levels, and outer one that may also declare variables
module _ (room : ℕ) (inner : Parser s.Stmt) (outer : Parser s.Stmt) where
  unfoldable pub stmts : Parser (List s.Stmt)
  stmts = many starts_block_stmt outer

  unfoldable pub block : Parser s.Block
  block = do
    expect y.OpenBrace
    all ← stmts
    expect y.CloseBrace
    pure (s.BlockOf (s.stmts all))

  abbrev pub local : Bool → TypeUse → Parser s.Stmt
  local is_final ty = do
    ds ← declarators room
    expect y.Semicolon
    pure (s.Local is_final ty ds)

  abbrev pub evaluated : Lead → Parser s.Stmt
  evaluated lead = do
    e ← effect room lead
    expect y.Semicolon
    pure (s.Eval e)

  -- ---- from a name on: a declaration, a label or an expression (JLS 14.4, 14.7, 14.8)

  -- behind a name and an open bracket, where a declaration may stand
  abbrev pub bracketed : List Text → Text → Parser s.Stmt
  bracketed before last ts =
      if is_at y.CloseBracket ts
      then skipping (dims >>= (λ more. local false (type_of (base.Named (name_of (before ++ last ∷ []))) (suc more)))) ts
      else evaluated (Indexed (name_of (before ++ last ∷ []))) ts

  abbrev pub labeled : Text → Parser s.Stmt
  labeled name = inner >>= (λ body. pure (s.Labeled name body))

  abbrev pub named_by : Bool → List Text → Text → Kind → Parser s.Stmt
  named_by true before last (kind.Ident variable) = local false (type_of (base.Named (name_of (before ++ last ∷ []))) 0)
  named_by true before last (kind.Sym y.OpenBracket) = skipping (bracketed before last)
  named_by false before last (kind.Sym y.OpenBracket) = skipping (within 3 room (kind.Sym y.OpenBracket) (evaluated (Indexed (name_of (before ++ last ∷ [])))))
  named_by declares [] last (kind.Sym y.Colon) = next_token (λ token. within 1 room token (labeled last))
  named_by declares before last token = evaluated (Named (Plain before last))

  unfoldable pub named : Bool → Dotted → Parser s.Stmt
  named declares (Plain before last) [] = evaluated (Named (Plain before last)) []
  named declares (Plain before last) (token ∷ ts) = named_by declares before last token (token ∷ ts)
  named declares (Enclosing before last) ts = evaluated (Named (Enclosing before last)) ts

  -- ---- with a word in front

  unfoldable pub do_stmt : Parser s.Stmt
  do_stmt = do
    body ← inner
    expect_word k.While
    c ← condition room
    expect y.Semicolon
    pure (s.Do body c)

  unfoldable pub while_stmt : Parser s.Stmt
  while_stmt = do
    c ← condition room
    body ← inner
    pure (s.While c body)

  abbrev pub otherwise : Parser s.AnyStmt
  otherwise ts = if is_at_word k.Else ts then skipping (inner >>= (λ b. pure (s.a_stmt b))) ts else Ok (s.no_stmt, ts)

  unfoldable pub if_stmt : Parser s.Stmt
  if_stmt = do
    c ← condition room
    a ← inner
    b ← otherwise
    pure (s.If c a b)

  abbrev pub finished : {A : Type 0} → Symbol → A → Parser A
  finished mark a = expect mark >> pure a

  abbrev pub break_stmt : Parser s.Stmt
  break_stmt = label >>= (λ l. finished y.Semicolon (s.Break l))

  abbrev pub continue_stmt : Parser s.Stmt
  continue_stmt = label >>= (λ l. finished y.Semicolon (s.Continue l))

  abbrev pub return_stmt : Parser s.Stmt
  return_stmt = optional starts_expr (expr room Nothing 0) >>= (λ e. finished y.Semicolon (s.Return e))

  abbrev pub throw_stmt : Parser s.Stmt
  throw_stmt = expr room Nothing 0 >>= (λ e. finished y.Semicolon (s.Throw e))

  -- ---- for (JLS 14.14.1)

  abbrev pub locals : Bool → TypeUse → Parser s.ForInit
  locals is_final ty = declarators room >>= (λ ds. pure (s.Locals is_final ty ds))

  -- a first expression, and others behind commas
  abbrev pub first_effects : Lead → Parser s.ForInit
  first_effects lead = do
    e ← effect room lead
    others ← many (begins_with y.Comma) (after_comma (effect room Nothing))
    pure (s.Exprs (x.more_exprs e (x.exprs others)))

  abbrev pub first_bracketed : List Text → Text → Parser s.ForInit
  first_bracketed before last ts =
      if is_at y.CloseBracket ts
      then skipping (dims >>= (λ more. locals false (type_of (base.Named (name_of (before ++ last ∷ []))) (suc more)))) ts
      else first_effects (Indexed (name_of (before ++ last ∷ []))) ts

  abbrev pub first_named_by : List Text → Text → Kind → Parser s.ForInit
  first_named_by before last (kind.Ident variable) = locals false (type_of (base.Named (name_of (before ++ last ∷ []))) 0)
  first_named_by before last (kind.Sym y.OpenBracket) = skipping (first_bracketed before last)
  first_named_by before last token = first_effects (Named (Plain before last))

  unfoldable pub first_named : Dotted → Parser s.ForInit
  first_named (Plain before last) [] = first_effects (Named (Plain before last)) []
  first_named (Plain before last) (token ∷ ts) = first_named_by before last token (token ∷ ts)
  first_named (Enclosing before last) ts = first_effects (Named (Enclosing before last)) ts

  abbrev pub for_first_by : Kind → Parser (Option s.ForInit)
  for_first_by (kind.Ident head) = skipping (dotted (has_this room) [] head >>= first_named >>= (λ i. pure (Some i)))
  for_first_by token = λ ts.
      if begins_local token then (finality >>= (λ is_final. type_use >>= (λ ty. locals is_final ty >>= (λ i. pure (Some i))))) ts
      else (if starts_effect (Some token) then (first_effects Nothing >>= (λ i. pure (Some i))) ts else Ok (None, ts))

  unfoldable pub for_first : Parser (Option s.ForInit)
  for_first [] = Ok (None, [])
  for_first (token ∷ ts) = for_first_by token (token ∷ ts)

  unfoldable pub for_stmt : Parser s.Stmt
  for_stmt = do
    expect y.OpenParen
    i ← for_first
    expect y.Semicolon
    c ← optional starts_expr (expr room Nothing 0)
    expect y.Semicolon
    update ← any_commas starts_effect (effect room Nothing)
    expect y.CloseParen
    body ← inner
    pure (s.For i c (x.exprs update) body)

  -- ---- switch (JLS 14.11)

  abbrev pub label_by : Kind → Parser s.SwitchLabel
  label_by (kind.Word k.Case) = expr room Nothing 0 >>= (λ e. finished y.Colon (s.Case e))
  label_by (kind.Word k.Default) = finished y.Colon s.Default
  label_by token = λ ts. refuse (token ∷ ts)

  unfoldable pub group : Parser s.Group
  group = do
    labels ← many starts_label (next_token label_by)
    all ← stmts
    pure (s.GroupOf labels (s.stmts all))

  unfoldable pub switch_stmt : Parser s.Stmt
  switch_stmt = do
    e ← condition room
    expect y.OpenBrace
    groups ← many starts_label group
    expect y.CloseBrace
    pure (s.Switch e (s.groups groups))

  -- ---- try (JLS 14.20)

  unfoldable pub catch_clause : Parser s.Catch
  catch_clause = do
    expect_word k.Catch
    expect y.OpenParen
    p ← param
    expect y.CloseParen
    b ← block
    pure (s.CatchOf p b)

  -- a catch is there, or `finally` must be
  abbrev pub finally_part : List s.Catch → Parser s.AnyBlock
  finally_part [] ts = (expect_word k.Finally >> (block >>= (λ b. pure (s.a_block b)))) ts
  finally_part (c ∷ cs) ts = if is_at_word k.Finally ts then skipping (block >>= (λ b. pure (s.a_block b))) ts else Ok (s.no_block, ts)

  unfoldable pub try_stmt : Parser s.Stmt
  try_stmt = do
    b ← block
    cs ← many (next_is is_catch) catch_clause
    last ← finally_part cs
    pure (s.Try b (s.catches cs) last)

  -- ---- by the first token

  abbrev pub forcing : Keyword → Parser s.Stmt → Parser s.Stmt
  forcing w p = skipping (within 1 room (kind.Word w) p)

  abbrev pub stmt_by : Bool → Kind → Parser s.Stmt
  stmt_by declares (kind.Sym y.OpenBrace) = block >>= (λ b. pure (s.Nest b))
  stmt_by declares (kind.Sym y.Semicolon) = skipping (pure s.Skip)
  stmt_by declares (kind.Word k.Do) = forcing k.Do do_stmt
  stmt_by declares (kind.Word k.While) = forcing k.While while_stmt
  stmt_by declares (kind.Word k.If) = forcing k.If if_stmt
  stmt_by declares (kind.Word k.For) = forcing k.For for_stmt
  stmt_by declares (kind.Word k.Switch) = forcing k.Switch switch_stmt
  stmt_by declares (kind.Word k.Throw) = forcing k.Throw throw_stmt
  stmt_by declares (kind.Word k.Break) = skipping break_stmt
  stmt_by declares (kind.Word k.Continue) = skipping continue_stmt
  stmt_by declares (kind.Word k.Return) = skipping return_stmt
  stmt_by declares (kind.Word k.Try) = skipping try_stmt
  stmt_by true (kind.Ident head) = skipping (dotted (has_this room) [] head >>= named true)
  stmt_by false (kind.Ident head) = skipping (within 1 room (kind.Ident head) (dotted (has_this room) [] head >>= named false))
  stmt_by declares token = λ ts.
      if declares && begins_local token then (finality >>= (λ is_final. type_use >>= local is_final)) ts
      else (if starts_effect (Some token) then next_token (λ token us. within 1 room token (λ vs. evaluated Nothing (token ∷ vs)) us) ts else refuse ts)

  unfoldable pub stmt_of : Bool → Parser s.Stmt
  stmt_of declares [] = refuse []
  stmt_of declares (token ∷ ts) = stmt_by declares token (token ∷ ts)

  -- ---- the body of a constructor (JLS 8.8.7)

  abbrev pub ctor_call : ThisOrSuper → Lead → Parser s.Stmt
  ctor_call called lead ts =
      if is_at y.OpenParen ts
      then skipping (arguments room (expr room) (list room) >>= (λ args. finished y.Semicolon (s.CtorCall called (x.exprs args)))) ts
      else evaluated lead ts

  -- its first statement, if one stands there
  abbrev pub ctor_first_by : Kind → Parser (List s.Stmt)
  ctor_first_by (kind.Word k.This) = skipping (ctor_call which.This This >>= (λ a. pure (a ∷ [])))
  ctor_first_by (kind.Word k.Super) = skipping (ctor_call which.Super Super >>= (λ a. pure (a ∷ [])))
  ctor_first_by token = pure []

  unfoldable pub ctor_first : Parser (List s.Stmt)
  ctor_first [] = Ok ([], [])
  ctor_first (token ∷ ts) = ctor_first_by token (token ∷ ts)

  unfoldable pub ctor_block : Parser s.Block
  ctor_block = do
    expect y.OpenBrace
    front ← ctor_first
    all ← stmts
    expect y.CloseBrace
    pure (s.BlockOf (s.stmts (front ++ all)))

-- ---- of at most so many levels

-- a statement that declares variables directly, or not
unfoldable pub stmt : ℕ → Bool → Parser s.Stmt
stmt zero true = no_level starts_block_stmt
stmt zero false = no_level starts_stmt
stmt (suc room) declares = stmt_of room (stmt room false) (stmt room true) declares

-- statements in braces, each of at most so many levels
abbrev pub body : ℕ → Parser s.Block
body room = block room (stmt room false) (stmt room true)

-- the same, where the first may call another constructor
abbrev pub ctor_body : ℕ → Parser s.Block
ctor_body zero = body zero
ctor_body (suc room) = ctor_block room (stmt room false) (stmt (suc room) true)
