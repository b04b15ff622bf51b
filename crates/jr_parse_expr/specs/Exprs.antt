-- Reading expressions (JLS 15): an operand, then operators by how tightly they bind. Each reader takes no token that no tree allows there.
use Rattle.std.specs.Prelude.{ℕ, zero, suc, Bool, true, false, ◌&&◌, ◌||◌, not, if◌then◌else◌, nat_lt, List, [], ◌∷◌, ◌++◌, length, Option, Some, None, Ok}
use Rattle.jr_base.specs.declared.text.Text.{Text}
use Rattle.jr_base.specs.declared.kind.Kind.{Kind}
use Rattle.jr_base.specs.declared.kind.Kind.TheVariants as kind
use Rattle.jr_base.specs.declared.kind.Symbol.{Symbol}
use Rattle.jr_base.specs.declared.kind.Symbol.TheVariants as y
use Rattle.jr_base.specs.declared.kind.Keyword.TheVariants as k
use Rattle.jr_tree.specs.declared.tree.Name.{Name}
use Rattle.jr_tree.specs.declared.tree.Base.{Base}
use Rattle.jr_tree.specs.declared.tree.Base.TheVariants as base
use Rattle.jr_tree.specs.declared.tree.Primitive.{Primitive}
use Rattle.jr_tree.specs.Mirror.Exprs as x
use Rattle.jr_tree.specs.Levels.{binary_level, is_assignment, is_unary, is_step, is_least_kind}
use Rattle.jr_tree.specs.Shape.{level, is_target, is_statement, is_new_array}
use Rattle.jr_tree.specs.Depth.{expr_depth}
use Rattle.jr_parse_laws.specs.Parsers.{Outcome, Parser, ◌>>=◌, ◌>>◌, and_then, pure, refuse, deep, first, expect, identifier, commas, is_at, symbol_at}
use Rattle.jr_parse_starts.specs.Starts.{is_plain_literal, begins_cast_operand, next_is, starts_expr, starts_effect, starts_init, starts_list, no_level, within, over}
use Rattle.jr_parse_expr.specs.Names.{name_of, type_of, dims, name, primitive_kind, primitive_at, element, type_use, Dotted, Plain, Enclosing, dotted}

-- what the caller has read of an expression already
pub data Lead : Type 0 where
  Nothing : Lead
  -- a name, perhaps with `this`
  Named : Dotted → Lead
  -- a name and an open bracket
  Indexed : Name → Lead
  -- the word `this`, or `super`
  This : Lead
  Super : Lead

abbrev pub next_token : {A : Type 0} → (Kind → Parser A) → Parser A
next_token f [] = refuse []
next_token f (token ∷ ts) = f token ts

-- past the next token
abbrev pub skipping : {A : Type 0} → Parser A → Parser A
skipping p [] = refuse []
skipping p (token ∷ ts) = p ts

-- items with commas, if one begins
abbrev pub any_commas : {A : Type 0} → (Option Kind → Bool) → Parser A → Parser (List A)
any_commas starts item ts = if starts (first ts) then commas item ts else Ok ([], ts)

abbrev pub receiver_of : List Text → x.AnyReceiver
receiver_of [] = x.no_receiver
receiver_of (part ∷ parts) = x.a_receiver (x.OfName (name_of (part ∷ parts)))

abbrev pub closed : x.Expr → Parser x.Expr
closed e = expect y.CloseParen >> pure (x.Paren e)

-- in room levels; inner reads a part of at most so many, from a level of binding on, and list an array's initializer
module _ (room : ℕ) (inner : Lead → ℕ → Parser x.Expr) (list : Parser x.InitList) where
  -- behind the open parenthesis (JLS 15.12)
  unfoldable pub arguments : Parser (List x.Expr)
  arguments = do
    all ← any_commas starts_expr (inner Nothing 0)
    expect y.CloseParen
    pure all

  -- a method's name, and what makes the call or else the access
  abbrev pub call_or : x.AnyReceiver → Text → x.Expr → Parser x.Expr
  call_or receiver method access ts =
      if is_at y.OpenParen ts then skipping (arguments >>= (λ args. pure (x.Call receiver method (x.exprs args)))) ts else Ok (access, ts)

  unfoldable pub after_dotted : Dotted → Parser x.Expr
  after_dotted (Enclosing before last) = pure (x.This (Some (name_of (before ++ last ∷ []))))
  after_dotted (Plain before last) = call_or (receiver_of before) last (x.NameExpr (name_of (before ++ last ∷ [])))

  unfoldable pub after_bracket : Name → Parser x.Expr
  after_bracket n = do
    at ← inner Nothing 0
    expect y.CloseBracket
    pure (x.Index (x.NameExpr n) at)

  -- behind `super` (JLS 15.11.2, 15.12)
  unfoldable pub super_member : Parser x.Expr
  super_member = do
    expect y.Dot
    member ← identifier
    call_or (x.a_receiver x.Super) member (x.SuperSelect member)

  -- ---- creations (JLS 15.9, 15.10)

  -- sizes in brackets, then empty pairs
  abbrev pub sizes_from : ℕ → Parser (List x.Expr × ℕ)
  sizes_from zero ts = Ok (([], 0), ts)
  sizes_from (suc turns) ts =
      if is_at y.OpenBracket ts
      then skipping (λ us. if is_at y.CloseBracket us
      then skipping (dims >>= (λ more. pure ([], suc more))) us
      else (inner Nothing 0 >>= (λ e. expect y.CloseBracket >> (sizes_from turns >>= (λ r. pure (e ∷ r.0, r.1))))) us) ts
      else Ok (([], 0), ts)

  unfoldable pub sizes : Parser (List x.Expr × ℕ)
  sizes ts = sizes_from (length ts) ts

  unfoldable pub sized : Base → Parser x.Expr
  sized b = do
    size ← inner Nothing 0
    expect y.CloseBracket
    r ← sizes
    pure (x.NewArray b (x.more_exprs size (x.exprs r.0)) r.1 x.no_list)

  unfoldable pub unsized : Base → Parser x.Expr
  unsized b = do
    more ← dims
    items ← list
    pure (x.NewArray b x.no_exprs (suc more) (x.a_list items))

  -- behind the first open bracket
  unfoldable pub array : Base → Parser x.Expr
  array b ts = if is_at y.CloseBracket ts then skipping (unsized b) ts else sized b ts

  abbrev pub created_by : Name → Kind → Parser x.Expr
  created_by n (kind.Sym y.OpenParen) = arguments >>= (λ args. pure (x.New n (x.exprs args)))
  created_by n (kind.Sym y.OpenBracket) = within 1 room (kind.Sym y.OpenBracket) (array (base.Named n))
  created_by n token = λ ts. refuse (token ∷ ts)

  abbrev pub creation_by : Option Primitive → Parser x.Expr
  creation_by None = name >>= (λ n. next_token (created_by n))
  creation_by (Some p) = next_token (λ token. within 1 room token (expect y.OpenBracket >> array (base.Primitive p)))

  -- behind `new`
  unfoldable pub creation : Parser x.Expr
  creation ts = creation_by (primitive_at ts) ts

  -- ---- casts and parentheses (JLS 15.8.5, 15.16)

  abbrev pub cast : Base → ℕ → Parser x.Expr
  cast b pairs = inner Nothing 12 >>= (λ e. pure (x.Cast (type_of b pairs) e))

  unfoldable pub primitive_cast : Parser x.Expr
  primitive_cast = do
    b ← element
    pairs ← dims
    expect y.CloseParen
    cast b pairs

  -- behind a name in parentheses
  unfoldable pub name_in_parens : Name → Parser x.Expr
  name_in_parens n ts = if next_is begins_cast_operand (first ts) then cast (base.Named n) 0 ts else Ok (x.Paren (x.NameExpr n), ts)

  unfoldable pub array_cast : Name → Parser x.Expr
  array_cast n = do
    more ← dims
    expect y.CloseParen
    (λ ts. if next_is begins_cast_operand (first ts) then cast (base.Named n) (suc more) ts else refuse ts)

  -- behind an open parenthesis, a name and an open bracket
  unfoldable pub bracket_in_parens : Name → Parser x.Expr
  bracket_in_parens n ts = if is_at y.CloseBracket ts then skipping (array_cast n) ts else (inner (Indexed n) 0 >>= closed) ts

  abbrev pub dotted_in_parens_by : List Text → Text → Option Symbol → Parser x.Expr
  dotted_in_parens_by before last (Some y.CloseParen) = skipping (name_in_parens (name_of (before ++ last ∷ [])))
  dotted_in_parens_by before last (Some y.OpenBracket) = skipping (bracket_in_parens (name_of (before ++ last ∷ [])))
  dotted_in_parens_by before last _ = inner (Named (Plain before last)) 0 >>= closed

  unfoldable pub dotted_in_parens : Dotted → Parser x.Expr
  dotted_in_parens (Enclosing before last) ts = (inner (Named (Enclosing before last)) 0 >>= closed) ts
  dotted_in_parens (Plain before last) ts = dotted_in_parens_by before last (symbol_at ts) ts

  abbrev pub in_parens_by : Option Primitive → Kind → Parser x.Expr
  in_parens_by (Some p) token = primitive_cast
  in_parens_by None (kind.Ident head) = skipping (dotted true [] head >>= dotted_in_parens)
  in_parens_by None token = inner Nothing 0 >>= closed

  -- behind the open parenthesis
  unfoldable pub in_parens : Parser x.Expr
  in_parens [] = refuse []
  in_parens (token ∷ ts) = in_parens_by (primitive_kind token) token (token ∷ ts)

  -- ---- operands (JLS 15.8, 15.15)

  abbrev pub prefix : Symbol → Parser x.Expr
  prefix s ts =
      if is_unary s then within 1 room (kind.Sym s) (inner Nothing 12 >>= (λ e. pure (x.Unary s e))) ts
      else (if is_step s then within 1 room (kind.Sym s) (inner Nothing 12 >>= (λ e. pure (x.PreStep s e))) ts
      else refuse (kind.Sym s ∷ ts))

  abbrev pub negated_by : Kind → List Kind → Outcome x.Expr
  negated_by token ts =
      if is_least_kind token then Ok (x.Unary y.Minus (x.Lit token), ts) else and_then (inner Nothing 12 (token ∷ ts)) (λ e. pure (x.Unary y.Minus e))

  -- behind a minus
  unfoldable pub negated : Parser x.Expr
  negated = next_token negated_by

  abbrev pub operand_by : Kind → Parser x.Expr
  operand_by (kind.Ident head) = dotted true [] head >>= after_dotted
  operand_by (kind.Word k.This) = pure (x.This None)
  operand_by (kind.Word k.Super) = super_member
  operand_by (kind.Word k.New) = creation
  operand_by (kind.Sym y.OpenParen) = within 1 room (kind.Sym y.OpenParen) in_parens
  operand_by (kind.Sym y.Minus) = within 1 room (kind.Sym y.Minus) negated
  operand_by (kind.Sym s) = prefix s
  operand_by token = λ ts. if is_plain_literal token then Ok (x.Lit token, ts) else refuse (token ∷ ts)

  unfoldable pub operand : Lead → Parser x.Expr
  operand Nothing = next_token operand_by
  operand (Named d) = after_dotted d
  operand (Indexed n) = after_bracket n
  operand This = pure (x.This None)
  operand Super = super_member

  -- ---- what stands behind an operand (JLS 15.11 to 15.14)

  abbrev pub selected : x.Expr → Parser x.Expr
  selected left = identifier >>= (λ member. call_or (x.a_receiver (x.Of left)) member (x.Select left member))

  abbrev pub indexed : x.Expr → Parser x.Expr
  indexed left = inner Nothing 0 >>= (λ at. expect y.CloseBracket >> pure (x.Index left at))

  abbrev pub is_primary : x.Expr → Bool
  is_primary left = not (nat_lt (level left) 14)

  -- how the operand goes on, if it does
  abbrev pub suffix : x.Expr → Option Symbol → Option (Parser x.Expr)
  suffix left (Some y.Dot) = if is_primary left then Some (selected left) else None
  suffix left (Some y.OpenBracket) = if is_primary left && not (is_new_array left) then Some (indexed left) else None
  suffix left (Some s) = if is_step s && not (nat_lt (level left) 13) then Some (pure (x.PostStep left s)) else None
  suffix left None = None

  -- a step on from left, which becomes a part of what is read
  abbrev pub turn : x.Expr → Option (Parser x.Expr) → (x.Expr → Parser x.Expr) → Parser x.Expr
  turn left None on ts = Ok (left, ts)
  turn left (Some p) on ts = over (expr_depth left) room (skipping (p >>= on)) ts

  abbrev pub suffixes_from : ℕ → x.Expr → Parser x.Expr
  suffixes_from zero left ts = turn left (suffix left (symbol_at ts)) (λ e. deep) ts
  suffixes_from (suc turns) left ts = turn left (suffix left (symbol_at ts)) (suffixes_from turns) ts

  -- each turn adds a level, so that there are no more turns than levels
  unfoldable pub suffixes : x.Expr → Parser x.Expr
  suffixes = suffixes_from (suc room)

  -- ---- operators (JLS 15.17 to 15.26)

  abbrev pub choice : x.Expr → Parser x.Expr
  choice c = do
    a ← inner Nothing 0
    expect y.Colon
    b ← inner Nothing 1
    pure (x.Cond c a b)

  abbrev pub binary : x.Expr → Symbol → Parser x.Expr
  binary left op = inner Nothing (suc (binary_level op)) >>= (λ right. pure (x.Binary left op right))

  abbrev pub assigned : x.Expr → Symbol → Parser x.Expr
  assigned target op = inner Nothing 0 >>= (λ value. pure (x.Assign target op value))

  abbrev pub tested : x.Expr → Parser x.Expr
  tested left = type_use >>= (λ ty. pure (x.IsA left ty))

  abbrev pub operator_by : ℕ → x.Expr → Symbol → Option (Parser x.Expr)
  operator_by least left op =
      if is_assignment op then (if nat_lt 0 least || not (is_target left) then None else Some (assigned left op))
      else (if nat_lt (binary_level op) 1 || (nat_lt (binary_level op) least || nat_lt (level left) (binary_level op)) then None else Some (binary left op))

  -- how the expression goes on with an operator that binds as tightly as least, where it can take left, if it does:
  -- what stands before an operator binds as tightly as it does, and so `a instanceof T + b` ends before the plus
  abbrev pub operator : ℕ → x.Expr → Option Kind → Option (Parser x.Expr)
  operator least left (Some (kind.Sym y.Question)) = if nat_lt 1 least || nat_lt (level left) 2 then None else Some (choice left)
  operator least left (Some (kind.Sym op)) = operator_by least left op
  operator least left (Some (kind.Word k.Instanceof)) = if nat_lt 8 least || nat_lt (level left) 8 then None else Some (tested left)
  operator least left _ = None

  abbrev pub climb_from : ℕ → ℕ → x.Expr → Parser x.Expr
  climb_from zero least left ts = turn left (operator least left (first ts)) (λ e. deep) ts
  climb_from (suc turns) least left ts = turn left (operator least left (first ts)) (climb_from turns least) ts

  unfoldable pub climb : ℕ → x.Expr → Parser x.Expr
  climb = climb_from (suc room)

  unfoldable pub operations : Lead → ℕ → Parser x.Expr
  operations lead least = operand lead >>= suffixes >>= climb least

  -- ---- how an expression that stands as a statement ends (JLS 14.8)

  -- the assignment that follows, if one does
  abbrev pub effect_end_by : x.Expr → Option Symbol → Parser x.Expr
  effect_end_by left None ts = if is_statement left then Ok (left, ts) else refuse ts
  effect_end_by left (Some op) ts =
      if is_assignment op && is_target left then over (expr_depth left) room (skipping (assigned left op)) ts
      else (if is_statement left then Ok (left, ts) else refuse ts)

  unfoldable pub effect_end : x.Expr → Parser x.Expr
  effect_end left ts = effect_end_by left (symbol_at ts) ts

  -- ---- initializers (JLS 8.3, 10.6)

  unfoldable pub init_of : Parser x.Init
  init_of ts = if starts_list (first ts) then and_then (list ts) (λ l. pure (x.Listed l)) else and_then (inner Nothing 0 ts) (λ e. pure (x.Value e))

  -- the items behind one, and whether a comma stands last
  abbrev pub after_item_from : ℕ → Parser (List x.Init × Bool)
  after_item_from zero ts = Ok (([], false), ts)
  after_item_from (suc turns) ts =
      if is_at y.Comma ts
      then skipping (λ us. if starts_init (first us)
      then (init_of >>= (λ i. after_item_from turns >>= (λ r. pure (i ∷ r.0, r.1)))) us
      else Ok (([], true), us)) ts
      else Ok (([], false), ts)

  unfoldable pub after_item : Parser (List x.Init × Bool)
  after_item ts = after_item_from (length ts) ts

  unfoldable pub items : Parser (List x.Init × Bool)
  items ts =
      if starts_init (first ts) then (init_of >>= (λ i. after_item >>= (λ r. pure (i ∷ r.0, r.1)))) ts
      else (if is_at y.Comma ts then skipping (pure ([], true)) ts else Ok (([], false), ts))

  unfoldable pub braces : Parser x.InitList
  braces = do
    expect y.OpenBrace
    r ← items
    expect y.CloseBrace
    pure (x.ListOf (x.inits r.0) r.1)

-- ---- expressions that stand as statements (JLS 14.8): what is none by itself is a part of one, and so has a level less

abbrev pub below : ℕ → ℕ
below zero = zero
below (suc room) = room

-- in room levels below the statement, where inner reads a part; low and low_list read the parts of what is no statement by itself
module _ (room : ℕ) (inner : Lead → ℕ → Parser x.Expr) (list : Parser x.InitList) (low : Lead → ℕ → Parser x.Expr) (low_list : Parser x.InitList) where
  -- an array is no statement
  abbrev pub effect_created_by : Name → Kind → Parser x.Expr
  effect_created_by n (kind.Sym y.OpenBracket) = created_by (below room) low low_list n (kind.Sym y.OpenBracket)
  effect_created_by n token = created_by room inner list n token

  abbrev pub effect_creation_by : Option Primitive → Parser x.Expr
  effect_creation_by None = name >>= (λ n. next_token (effect_created_by n))
  effect_creation_by (Some p) = creation_by (below room) low low_list (Some p)

  abbrev pub effect_creation : Parser x.Expr
  effect_creation ts = effect_creation_by (primitive_at ts) ts

  abbrev pub effect_by : Kind → Parser x.Expr
  effect_by (kind.Ident head) = dotted (not (nat_lt room 1)) [] head >>= after_dotted room inner list
  effect_by (kind.Word k.This) = within 1 room (kind.Word k.This) (pure (x.This None))
  effect_by (kind.Word k.Super) = super_member room inner list
  effect_by (kind.Word k.New) = effect_creation
  effect_by (kind.Sym y.OpenParen) = within 2 room (kind.Sym y.OpenParen) (low Nothing 0 >>= closed)
  effect_by (kind.Sym s) = λ ts. if is_step s then prefix room inner list s ts else refuse (kind.Sym s ∷ ts)
  effect_by token = λ ts. if is_plain_literal token then within 1 room token (pure (x.Lit token)) ts else refuse (token ∷ ts)

  abbrev pub effect_operand : Lead → Parser x.Expr
  effect_operand Nothing = next_token effect_by
  effect_operand (Named d) = after_dotted room inner list d
  effect_operand (Indexed n) = after_bracket (below room) low low_list n
  effect_operand This = pure (x.This None)
  effect_operand Super = super_member room inner list

  -- an element of an array is no statement
  abbrev pub effect_suffix : x.Expr → Option Symbol → Option (Parser x.Expr)
  effect_suffix left (Some y.OpenBracket) =
      if is_primary room inner list left && not (is_new_array left) then Some (within (suc (expr_depth left)) room (kind.Sym y.OpenBracket) (indexed (below room) low low_list left)) else None
  effect_suffix left (Some s) = suffix room inner list left (Some s)
  effect_suffix left None = None

  abbrev pub effect_suffixes_from : ℕ → x.Expr → Parser x.Expr
  effect_suffixes_from zero left ts = turn room inner list left (effect_suffix left (symbol_at ts)) (λ e. deep) ts
  effect_suffixes_from (suc turns) left ts = turn room inner list left (effect_suffix left (symbol_at ts)) (effect_suffixes_from turns) ts

  unfoldable pub effect_suffixes : x.Expr → Parser x.Expr
  effect_suffixes = effect_suffixes_from (suc room)

  unfoldable pub effects : Lead → Parser x.Expr
  effects lead = effect_operand lead >>= effect_suffixes >>= effect_end room inner list

-- ---- of at most so many levels

unfoldable mutual
  pub expr : ℕ → Lead → ℕ → Parser x.Expr
  expr zero lead least = no_level starts_expr
  expr (suc room) lead least = operations room (expr room) (list room) lead least

  pub list : ℕ → Parser x.InitList
  list zero = no_level starts_list
  list (suc room) = braces room (expr room) (list room)

-- ---- where there is no level for an expression that stands as a statement

abbrev pub goes_on_name : Kind → Bool
goes_on_name (kind.Sym y.OpenParen) = true
goes_on_name (kind.Sym s) = is_step s || is_assignment s
goes_on_name _ = false

abbrev pub goes_on_primary : Kind → Bool
goes_on_primary (kind.Sym y.Dot) = true
goes_on_primary (kind.Sym y.OpenBracket) = true
goes_on_primary (kind.Sym s) = is_step s
goes_on_primary _ = false

abbrev pub goes_on_super : Kind → Bool
goes_on_super (kind.Sym y.Dot) = true
goes_on_super _ = false

-- whether one that begins so goes on with what comes next
abbrev pub goes_on : Lead → Option Kind → Bool
goes_on Nothing = starts_effect
goes_on (Named (Plain before last)) = next_is goes_on_name
goes_on (Named (Enclosing before last)) = next_is goes_on_primary
goes_on (Indexed n) = starts_expr
goes_on This = next_is goes_on_primary
goes_on Super = next_is goes_on_super

unfoldable pub effect : ℕ → Lead → Parser x.Expr
effect zero lead = no_level (goes_on lead)
effect (suc room) lead = effects room (expr room) (list room) (expr (below room)) (list (below room)) lead

abbrev pub init : ℕ → Parser x.Init
init room = init_of room (expr room) (list room)
