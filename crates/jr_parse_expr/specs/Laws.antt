-- What the laws of reading expressions say: what is written is read, and what is read is written (JLS 15, 18).
use Rattle.std.specs.Prelude.{◌≡◌, ℕ, ◌≤◌, List, ◌++◌, Ok, Err}
use Rattle.jr_base.specs.declared.kind.Kind.{Kind}
use Rattle.jr_tree.specs.Mirror.Exprs as x
use Rattle.jr_tree.specs.Shape.{IsShapedInit, IsWholeExpr}
use Rattle.jr_tree.specs.Depth.{init_depth}
use Rattle.jr_tree.specs.Tokens.{expr_tokens}
use Rattle.jr_parse_laws.specs.declared.fault.Fault.{Fault}
use Rattle.jr_parse_laws.specs.Parsers.{first}
use Rattle.jr_parse_laws.specs.Viable.{Alike, Begun, Wider, Deeper}
use Rattle.jr_parse_expr.specs.Names.{Enclosing}
use Rattle.jr_parse_expr.specs.Exprs.{Lead, Named, Indexed, This, expr, effect, init}
use Rattle.jr_parse_expr.specs.Writing.{write_lead, write_expr, write_init}
use Rattle.jr_parse_expr.specs.Follow.{Ends, EffectEnds, InitEnds, IsExpr, IsEffect, IsLed}

-- writing in front of a rest is writing out the tokens and then the rest
abbrev pub IsWritten : Type 0
IsWritten = (e : x.Expr) (rest : List Kind) → write_expr e rest ≡ expr_tokens e ++ rest

-- ---- expressions, from a level of binding on, in at most so many levels, where the caller may have read their beginning

pub record IsExprRead (room least : ℕ) (ts : List Kind) (read : x.Expr × List Kind) : Type 0 where
  pub is : IsExpr room least read.0
  pub written : ts ≡ write_expr read.0 read.1
  pub ended : Ends least read.0 (first read.1)

abbrev pub IsExprComplete : Type 0
IsExprComplete = (room least : ℕ) (lead : Lead) (e : x.Expr) (rest ts : List Kind) → IsExpr room least e → Ends least e (first rest) → IsLed lead (first ts) → write_lead lead ts ≡ write_expr e rest
    → expr room lead least ts ≡ Ok (e, rest)

abbrev pub IsExprSound : Type 0
IsExprSound = (room least : ℕ) (lead : Lead) (ts : List Kind) (read : x.Expr × List Kind) → least ≤ 12 → IsLed lead (first ts) → expr room lead least ts ≡ Ok read → IsExprRead room least (write_lead lead ts) read

-- ---- expressions that stand as statements

pub record IsEffectRead (room : ℕ) (ts : List Kind) (read : x.Expr × List Kind) : Type 0 where
  pub is : IsEffect room read.0
  pub written : ts ≡ write_expr read.0 read.1
  pub ended : EffectEnds read.0 (first read.1)

abbrev pub IsEffectComplete : Type 0
IsEffectComplete = (room : ℕ) (lead : Lead) (e : x.Expr) (rest ts : List Kind) → IsEffect room e → EffectEnds e (first rest) → IsLed lead (first ts) → write_lead lead ts ≡ write_expr e rest
    → effect room lead ts ≡ Ok (e, rest)

abbrev pub IsEffectSound : Type 0
IsEffectSound = (room : ℕ) (lead : Lead) (ts : List Kind) (read : x.Expr × List Kind) → IsLed lead (first ts) → effect room lead ts ≡ Ok read → IsEffectRead room (write_lead lead ts) read

-- ---- initializers

pub record IsInitRead (room : ℕ) (ts : List Kind) (read : x.Init × List Kind) : Type 0 where
  pub shaped : IsShapedInit read.0
  pub low : init_depth read.0 ≤ room
  pub written : ts ≡ write_init read.0 read.1
  pub ended : InitEnds read.0 (first read.1)

abbrev pub IsInitComplete : Type 0
IsInitComplete = (room : ℕ) (i : x.Init) (rest : List Kind) → IsShapedInit i → init_depth i ≤ room → InitEnds i (first rest) → init room (write_init i rest) ≡ Ok (i, rest)

abbrev pub IsInitSound : Type 0
IsInitSound = (room : ℕ) (ts : List Kind) (read : x.Init × List Kind) → init room ts ≡ Ok read → IsInitRead room ts read

-- ---- where a reader stops: what stands before the fault begins a tree, a deeper tree goes on where a level is missing, and the fault is the same whatever follows its token,
-- at each number of levels where no tree goes on

-- what the caller has read fits in so many levels
abbrev pub HasRoom : Lead → ℕ → Type 0
HasRoom (Indexed n) room = 2 ≤ room
HasRoom _ room = 1 ≤ room

pub record IsExprStop (room least : ℕ) (lead : Lead) (ts : List Kind) (f : Fault) (rest : List Kind) : Type 0 where
  pub viable : Begun (IsExpr room least) write_expr rest (write_lead lead ts)
  pub deeper : Deeper (λ r. IsExpr r least) write_expr f rest (write_lead lead ts)
  pub alone : (other : ℕ) (w : List Kind) → Wider f room other → first rest ≡ first w → (us : List Kind) × Alike rest w ts us × (expr other lead least us ≡ Err (f, w))

abbrev pub IsExprStuck : Type 0
IsExprStuck = (room least : ℕ) (lead : Lead) (ts : List Kind) (f : Fault) (rest : List Kind) → HasRoom lead room → least ≤ 12 → IsLed lead (first ts) → expr room lead least ts ≡ Err (f, rest)
    → IsExprStop room least lead ts f rest

-- what the caller has read fits in so many levels, as a part of a statement
abbrev pub HasEffectRoom : Lead → ℕ → Type 0
HasEffectRoom (Named (Enclosing before last)) room = 2 ≤ room
HasEffectRoom (Indexed n) room = 3 ≤ room
HasEffectRoom This room = 2 ≤ room
HasEffectRoom _ room = 1 ≤ room

pub record IsEffectStop (room : ℕ) (lead : Lead) (ts : List Kind) (f : Fault) (rest : List Kind) : Type 0 where
  pub viable : Begun (IsEffect room) write_expr rest (write_lead lead ts)
  pub deeper : Deeper IsEffect write_expr f rest (write_lead lead ts)
  pub alone : (other : ℕ) (w : List Kind) → Wider f room other → first rest ≡ first w → (us : List Kind) × Alike rest w ts us × (effect other lead us ≡ Err (f, w))

abbrev pub IsEffectStuck : Type 0
IsEffectStuck = (room : ℕ) (lead : Lead) (ts : List Kind) (f : Fault) (rest : List Kind) → HasEffectRoom lead room → IsLed lead (first ts) → effect room lead ts ≡ Err (f, rest)
    → IsEffectStop room lead ts f rest

abbrev pub IsInitOf : ℕ → x.Init → Type 0
IsInitOf r i = IsShapedInit i × (init_depth i ≤ r)

pub record IsInitStop (room : ℕ) (ts : List Kind) (f : Fault) (rest : List Kind) : Type 0 where
  pub viable : Begun (IsInitOf room) write_init rest ts
  pub deeper : Deeper IsInitOf write_init f rest ts
  pub alone : (other : ℕ) (w : List Kind) → Wider f room other → first rest ≡ first w → (us : List Kind) × Alike rest w ts us × (init other us ≡ Err (f, w))

abbrev pub IsInitStuck : Type 0
IsInitStuck = (room : ℕ) (ts : List Kind) (f : Fault) (rest : List Kind) → 1 ≤ room → init room ts ≡ Err (f, rest) → IsInitStop room ts f rest

-- ---- one reading

abbrev pub HasOneReading : Type 0
HasOneReading = (a b : x.Expr) → IsWholeExpr a → IsWholeExpr b → expr_tokens a ≡ expr_tokens b → a ≡ b
