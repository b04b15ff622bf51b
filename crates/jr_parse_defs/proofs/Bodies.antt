-- Reading the bodies of methods and constructors is exact in both directions.
use Rattle.std.proofs.Common.{◌≡◌, ℕ, zero, suc, ◌≤◌, Bool, true, false, not, List, [], ◌∷◌, ◌++◌, Option, Some, Ok, refl, sym, ap, ◌∙◌, subst, inl, inr, ◌⊎◌, arith}
use Rattle.jr_base.specs.declared.text.Text.{Text}
use Rattle.jr_base.specs.declared.kind.Kind.{Kind}
use Rattle.jr_base.specs.declared.kind.Kind.TheVariants as kind
use Rattle.jr_base.specs.declared.kind.Symbol.TheVariants as y
use Rattle.jr_base.specs.declared.kind.Keyword.TheVariants as k
use Rattle.jr_tree.specs.declared.tree.Base.{Base}
use Rattle.jr_tree.specs.declared.tree.Base.TheVariants as base
use Rattle.jr_tree.specs.declared.tree.Primitive.TheVariants as primitive
use Rattle.jr_tree.specs.declared.tree.ThisOrSuper.{ThisOrSuper}
use Rattle.jr_tree.specs.declared.tree.ThisOrSuper.TheVariants as which
use Rattle.jr_tree.specs.Words.{which_word}
use Rattle.jr_tree.specs.Shape.{is_empty, IsBase, IsStatementExpr, AreShapedExprs, IsShapedStmt, AreShapedStmts, IsShapedBlock, IsShapedCtorBody}
use Rattle.jr_tree.specs.Depth.{expr_depth, exprs_depth, stmts_depth, block_depth}
use Rattle.jr_tree.specs.Mirror.Exprs as x
use Rattle.jr_tree.specs.Mirror.Stmts as s
use Rattle.jr_parse_laws.specs.Parsers.{Parser, first, is_at}
use Rattle.jr_parse_laws.proofs.Outcomes.{bind_ok, chosen, ok_is, err_ok}
use Rattle.jr_parse_expr.specs.Exprs.{Lead, This, Super, arguments, effect_end, effects, super_member, effect_suffixes, expr, list, effect}
use Rattle.jr_parse_expr.specs.Writing.{write_all, write_base, write_brackets, write_expr, write_exprs, write_lead}
use Rattle.jr_parse_expr.specs.Follow.{IsLed}
use Rattle.jr_parse_expr.proofs.Asked.{exprs_listed, depth_pos}
use Rattle.jr_parse_expr.proofs.Arguments.{arguments_read, arguments_sound}
use Rattle.jr_parse_expr.proofs.ExprReads.{all_read}
use Rattle.jr_parse_defs.specs.Stmts as reader
use Rattle.jr_parse_defs.specs.Writing.{write_declarators, write_stmt, write_stmts, write_block}
use Rattle.jr_parse_defs.specs.Laws.{IsBodyComplete, IsBodySound, IsCtorBodyRead, IsCtorBodyComplete, IsCtorBodySound}
use Rattle.jr_parse_defs.proofs.Tokens.{eats, skipped}
use Rattle.jr_parse_defs.proofs.Expressions.{closes_semicolon, led}
use Rattle.jr_parse_defs.proofs.Named.{ReadsOne, evaluated_sound}
use Rattle.jr_parse_defs.proofs.Blocks.{stmts_read, stmts_sound, block_read, block_sound, stmts_listed, listed as listed_stmts}
use Rattle.jr_parse_defs.proofs.Statements.{stmt_reads}

pub bodies_complete : IsBodyComplete
bodies_complete room b rest h low = block_read room (reader.stmt room false) (reader.stmt room true) room (stmt_reads room true) b rest h low

pub bodies_sound : IsBodySound
bodies_sound room ts read h =
    let found = block_sound room (reader.stmt room false) (reader.stmt room true) room (stmt_reads room true) ts read h in
    record { shaped = found.shaped; low = found.low; written = found.written }

-- ---- the first statement of a constructor's body

abbrev pub is_own : Option Kind → Bool
is_own (Some (kind.Word k.This)) = true
is_own (Some (kind.Word k.Super)) = true
is_own _ = false

-- only an expression begins with `this` or `super`
abbrev Own : s.Stmt → List Kind → Type 0
Own a rest = ((e : x.Expr) × (a ≡ s.Eval e)) ⊎ (is_own (first (write_stmt a rest)) ≡ false)

name_not_own : (all : List Text) (ts : List Kind) → not (is_empty all) ≡ true → is_own (first (write_all all ts)) ≡ false
name_not_own [] ts h = absurd (cc)
name_not_own (part ∷ all) ts h = refl

base_not_own : (b : Base) (ts : List Kind) → IsBase b → is_own (first (write_base b ts)) ≡ false
base_not_own (base.Named n) ts h = name_not_own n.parts ts h
base_not_own (base.Primitive primitive.Boolean) ts h = refl
base_not_own (base.Primitive primitive.Byte) ts h = refl
base_not_own (base.Primitive primitive.Short) ts h = refl
base_not_own (base.Primitive primitive.Char) ts h = refl
base_not_own (base.Primitive primitive.Int) ts h = refl
base_not_own (base.Primitive primitive.Long) ts h = refl

own : (a : s.Stmt) (rest : List Kind) → IsShapedStmt a → Own a rest
own (s.Nest (s.BlockOf all)) rest h = inr refl
own (s.Local true t ds) rest h = inr refl
own (s.Local false t ds) rest h = inr (base_not_own t.base (write_brackets t.dims (write_declarators ds (kind.Sym y.Semicolon ∷ rest))) h.0)
own (s.Eval e) rest h = inl (e, refl)
own (s.CtorCall called args) rest h = absurd h
own a rest h = inr refl

no_this_call : (room : ℕ) (ts : List Kind) (r : x.Expr × List Kind) → effect (suc room) This (kind.Sym y.OpenParen ∷ ts) ≡ Ok r → ⊥
unfolding effect effects effect_suffixes effect_end
no_this_call room ts r h = err_ok h

no_super_call : (room : ℕ) (ts : List Kind) (r : x.Expr × List Kind) → effect (suc room) Super (kind.Sym y.OpenParen ∷ ts) ≡ Ok r → ⊥
unfolding effect effects super_member
no_super_call room ts r h = err_ok h

module _ (room : ℕ) where
  abbrev inner : Parser s.Stmt
  inner = reader.stmt room false

  abbrev outer : Parser s.Stmt
  outer = reader.stmt (suc room) true

  abbrev outers : ReadsOne (suc room) true outer
  outers = stmt_reads (suc room) true

  abbrev semi : List Kind → List Kind
  semi rest = kind.Sym y.Semicolon ∷ rest

  -- ---- what is written is read

  call_read : (called : ThisOrSuper) (lead : Lead) (args : x.Exprs) (rest : List Kind) → AreShapedExprs args → exprs_depth args ≤ room
      → reader.ctor_call room inner outer called lead (kind.Sym y.OpenParen ∷ write_exprs args (kind.Sym y.CloseParen ∷ semi rest)) ≡ Ok (s.CtorCall called args, rest)
  call_read called lead args rest h low =
      rw (arguments_read room (expr room) (list room) (all_read room).exprs args (semi rest) h low) (ap (λ args. Ok (s.CtorCall called args, rest)) (exprs_listed args))

  first_call_read : (called : ThisOrSuper) (args : x.Exprs) (rest : List Kind) → AreShapedExprs args → exprs_depth args ≤ room
      → reader.ctor_first room inner outer (write_stmt (s.CtorCall called args) rest) ≡ Ok (s.CtorCall called args ∷ [], rest)
  unfolding reader.ctor_first
  first_call_read which.This args rest h low = rw (call_read which.This This args rest h low) refl
  first_call_read which.Super args rest h low = rw (call_read which.Super Super args rest h low) refl

  eval_by : (called : ThisOrSuper) (lead : Lead) (ts : List Kind) (e : x.Expr) (rest : List Kind) → ((us : List Kind) → ts ≡ kind.Sym y.OpenParen ∷ us → ⊥) → effect room lead ts ≡ Ok (e, semi rest)
      → reader.ctor_call room inner outer called lead ts ≡ Ok (s.Eval e, rest)
  eval_by called lead [] e rest never h = rw h refl
  eval_by called lead (kind.Sym y.OpenParen ∷ ts) e rest never h = absurd (never ts refl)
  eval_by called lead (token ∷ ts) e rest never h = rw h refl

  this_closed : (ts us : List Kind) (r : x.Expr × List Kind) → 1 ≤ room → effect room This ts ≡ Ok r → ts ≡ kind.Sym y.OpenParen ∷ us → ⊥
  this_closed ts us r some h same = go room some (ap (effect room This) (sym same) ∙ h) where
    go : (n : ℕ) → 1 ≤ n → effect n This (kind.Sym y.OpenParen ∷ us) ≡ Ok r → ⊥
    go zero l g = absurd (omega arith)
    go (suc n) l g = no_this_call n us r g

  super_closed : (ts us : List Kind) (r : x.Expr × List Kind) → 1 ≤ room → effect room Super ts ≡ Ok r → ts ≡ kind.Sym y.OpenParen ∷ us → ⊥
  super_closed ts us r some h same = go room some (ap (effect room Super) (sym same) ∙ h) where
    go : (n : ℕ) → 1 ≤ n → effect n Super (kind.Sym y.OpenParen ∷ us) ≡ Ok r → ⊥
    go zero l g = absurd (omega arith)
    go (suc n) l g = no_super_call n us r g

  -- the front that is read, and the statements behind it
  record FrontRead (all : s.Stmts) (ts : List Kind) (rest : List Kind) : Type 0 where
    front : List s.Stmt
    more : s.Stmts
    middle : List Kind
    read : reader.ctor_first room inner outer ts ≡ Ok (front, middle)
    written : middle ≡ write_stmts more (kind.Sym y.CloseBrace ∷ rest)
    shaped : AreShapedStmts more
    low : stmts_depth more ≤ suc room
    made : s.stmts (front ++ listed_stmts more) ≡ all

  nothing_in_front : (ts : List Kind) → is_own (first ts) ≡ false → reader.ctor_first room inner outer ts ≡ Ok ([], ts)
  unfolding reader.ctor_first
  nothing_in_front [] h = refl
  nothing_in_front (kind.Word k.This ∷ ts) h = absurd (cc)
  nothing_in_front (kind.Word k.Super ∷ ts) h = absurd (cc)
  nothing_in_front (token ∷ ts) h = refl

  eval_in_front : (e : x.Expr) (ts rest : List Kind) → IsStatementExpr e → expr_depth e ≤ room → ts ≡ write_expr e (semi rest) → is_own (first ts) ≡ true → reader.ctor_first room inner outer ts ≡ Ok (s.Eval e ∷ [], rest)
  unfolding reader.ctor_first
  eval_in_front e [] rest is low same h = absurd (cc)
  eval_in_front e (kind.Word k.This ∷ ts) rest is low same h =
      let p = depth_pos e in
      let read = led room This e (semi rest) ts is low closes_semicolon tt same in
      rw (eval_by which.This This ts e rest (λ us. this_closed ts us _ (omega arith) read) read) refl
  eval_in_front e (kind.Word k.Super ∷ ts) rest is low same h =
      let p = depth_pos e in
      let read = led room Super e (semi rest) ts is low closes_semicolon tt same in
      rw (eval_by which.Super Super ts e rest (λ us. super_closed ts us _ (omega arith) read) read) refl
  eval_in_front e (token ∷ ts) rest is low same h = absurd (cc)

  eval_front : (e : x.Expr) (all : s.Stmts) (rest : List Kind) (b : Bool) → IsStatementExpr e → expr_depth e ≤ room → AreShapedStmts all → stmts_depth all ≤ suc room
      → is_own (first (write_expr e (semi (write_stmts all (kind.Sym y.CloseBrace ∷ rest))))) ≡ b → FrontRead (s.more_stmts (s.Eval e) all) (write_stmts (s.more_stmts (s.Eval e) all) (kind.Sym y.CloseBrace ∷ rest)) rest
  eval_front e all rest true is low h low_all starts = record {
    front = s.Eval e ∷ [];
    more = all;
    middle = write_stmts all (kind.Sym y.CloseBrace ∷ rest);
    read = eval_in_front e _ (write_stmts all (kind.Sym y.CloseBrace ∷ rest)) is low refl starts;
    written = refl;
    shaped = h;
    low = low_all;
    made = ap (s.more_stmts (s.Eval e)) (stmts_listed all);
  }
  eval_front e all rest false is low h low_all starts = record {
    front = [];
    more = s.more_stmts (s.Eval e) all;
    middle = write_stmts (s.more_stmts (s.Eval e) all) (kind.Sym y.CloseBrace ∷ rest);
    read = nothing_in_front _ starts;
    written = refl;
    shaped = (is, h);
    low = omega arith;
    made = ap (s.more_stmts (s.Eval e)) (stmts_listed all);
  }

  plain_front : (all : s.Stmts) (rest : List Kind) → AreShapedStmts all → stmts_depth all ≤ suc room → FrontRead all (write_stmts all (kind.Sym y.CloseBrace ∷ rest)) rest
  plain_front s.no_stmts rest h low = record {
    front = [];
    more = s.no_stmts;
    middle = kind.Sym y.CloseBrace ∷ rest;
    read = nothing_in_front (kind.Sym y.CloseBrace ∷ rest) refl;
    written = refl;
    shaped = tt;
    low = omega arith;
    made = refl;
  }
  plain_front (s.more_stmts a all) rest h low =
      elim (own a (write_stmts all (kind.Sym y.CloseBrace ∷ rest)) h.0) [
        | inl e ↦
            (let shaped : IsShapedStmt (s.Eval e.0) = subst IsShapedStmt e.1 h.0 in
            let low_here : stmts_depth (s.more_stmts (s.Eval e.0) all) ≤ suc room = subst (λ a. stmts_depth (s.more_stmts a all) ≤ suc room) e.1 low in
            subst (λ a. FrontRead (s.more_stmts a all) (write_stmts (s.more_stmts a all) (kind.Sym y.CloseBrace ∷ rest)) rest) (sym e.1) (eval_front e.0 all rest _ shaped (omega arith) h.1 (omega arith) refl))
        | inr f ↦
            record {
              front = [];
              more = s.more_stmts a all;
              middle = write_stmts (s.more_stmts a all) (kind.Sym y.CloseBrace ∷ rest);
              read = nothing_in_front _ f;
              written = refl;
              shaped = h;
              low = low;
              made = stmts_listed (s.more_stmts a all);
            }
      ]

  front_read : (all : s.Stmts) (rest : List Kind) → IsShapedCtorBody (s.BlockOf all) → stmts_depth all ≤ suc room → FrontRead all (write_stmts all (kind.Sym y.CloseBrace ∷ rest)) rest
  front_read (s.more_stmts (s.CtorCall called args) all) rest h low = record {
    front = s.CtorCall called args ∷ [];
    more = all;
    middle = write_stmts all (kind.Sym y.CloseBrace ∷ rest);
    read = first_call_read called args (write_stmts all (kind.Sym y.CloseBrace ∷ rest)) h.0 (omega arith);
    written = refl;
    shaped = h.1;
    low = omega arith;
    made = ap (s.more_stmts (s.CtorCall called args)) (stmts_listed all);
  }
  front_read s.no_stmts rest h low = plain_front s.no_stmts rest h low
  front_read (s.more_stmts a all) rest h low = plain_front (s.more_stmts a all) rest h low

  ctor_read : (b : s.Block) (rest : List Kind) → IsShapedCtorBody b → block_depth b ≤ suc room → reader.ctor_block room inner outer (write_block b rest) ≡ Ok (b, rest)
  unfolding reader.ctor_block
  ctor_read (s.BlockOf all) rest h low =
      let f = front_read all rest h low in
      rw (f.read, f.written, stmts_read room inner outer (suc room) outers f.more (kind.Sym y.CloseBrace ∷ rest) f.shaped f.low refl (record { no_catch = refl; no_finally = refl; no_else = refl }))
      (ap (λ all. Ok (s.BlockOf all, rest)) f.made)

  -- ---- what is read is written

  -- the statement that was read first, if one was
  pub record FrontFound (ts : List Kind) (r : List s.Stmt × List Kind) : Type 0 where
    pub shaped : (all : List s.Stmt) → AreShapedStmts (s.stmts all) → IsShapedCtorBody (s.BlockOf (s.stmts (r.0 ++ all)))
    pub low : (all : List s.Stmt) → stmts_depth (s.stmts all) ≤ suc room → stmts_depth (s.stmts (r.0 ++ all)) ≤ suc room
    pub written : (all : List s.Stmt) (rest : List Kind) → r.1 ≡ write_stmts (s.stmts all) rest → ts ≡ write_stmts (s.stmts (r.0 ++ all)) rest

  -- a statement's shape as a body's
  as_body : (all : s.Stmts) → AreShapedStmts all → IsShapedCtorBody (s.BlockOf all)
  as_body s.no_stmts h = h
  as_body (s.more_stmts (s.CtorCall called args) all) h = absurd h.0
  as_body (s.more_stmts a all) h = h

  none_found : (ts : List Kind) → FrontFound ts ([], ts)
  none_found ts = record { shaped = λ all h. as_body (s.stmts all) h; low = λ all l. l; written = λ all rest e. e }

  pub call_sound : (called : ThisOrSuper) (lead : Lead) (ts : List Kind) (r : s.Stmt × List Kind) → IsLed lead (first ts) → kind.Word (which_word called) ∷ ts ≡ write_lead lead ts → reader.ctor_call room inner outer called lead ts ≡ Ok r
      → FrontFound (kind.Word (which_word called) ∷ ts) (r.0 ∷ [], r.1)
  call_sound called lead ts r fits same h =
      elim (chosen (is_at y.OpenParen ts) _ _ _ h) [
        | inl t ↦
            (let u = skipped y.OpenParen _ ts r t.0 t.1 in
            let a = bind_ok (arguments room (expr room) (list room) u.0) _ r u.2 in
            let found = arguments_sound room (expr room) (list room) (all_read room).exprs u.0 a.0 a.1 in
            let e = eats y.Semicolon a.0.1 _ r a.2 in
            let low : exprs_depth (x.exprs a.0.0) ≤ room = found.low in
            subst (λ (r : s.Stmt × List Kind). FrontFound (kind.Word (which_word called) ∷ ts) (r.0 ∷ [], r.1)) (ok_is e.more)
            (record {
              shaped = λ all h. (found.shaped, h);
              low = λ all l. omega arith;
              written = λ all rest g. ap (λ us. kind.Word (which_word called) ∷ us)
                  (u.1 ∙ ap (λ us. kind.Sym y.OpenParen ∷ us) (found.written ∙ ap (λ us. write_exprs (x.exprs a.0.0) (kind.Sym y.CloseParen ∷ us)) (e.written ∙ ap (λ us. semi us) g)));
            }))
        | inr t ↦
            (let made = evaluated_sound room inner outer false lead ts r fits t.1 in
            record {
              shaped = λ all h. as_body (s.stmts (r.0 ∷ all)) (made.is.shaped, h);
              low = λ all l. (let low = made.is.low in omega arith);
              written = λ all rest g. same ∙ made.written ∙ ap (write_stmt r.0) g;
            })
      ]

  pub front_sound : (ts : List Kind) (r : List s.Stmt × List Kind) → reader.ctor_first room inner outer ts ≡ Ok r → FrontFound ts r
  unfolding reader.ctor_first
  front_sound [] r h = subst (FrontFound []) (ok_is h) (none_found [])
  front_sound (kind.Word k.This ∷ ts) r h =
      let a = bind_ok (reader.ctor_call room inner outer which.This This ts) _ r h in
      subst (FrontFound (kind.Word k.This ∷ ts)) (ok_is a.2) (call_sound which.This This ts a.0 tt refl a.1)
  front_sound (kind.Word k.Super ∷ ts) r h =
      let a = bind_ok (reader.ctor_call room inner outer which.Super Super ts) _ r h in
      subst (FrontFound (kind.Word k.Super ∷ ts)) (ok_is a.2) (call_sound which.Super Super ts a.0 tt refl a.1)
  front_sound (token ∷ ts) r h = subst (FrontFound (token ∷ ts)) (ok_is h) (none_found (token ∷ ts))

  ctor_sound : (ts : List Kind) (r : s.Block × List Kind) → reader.ctor_block room inner outer ts ≡ Ok r → IsCtorBodyRead (suc room) ts r
  unfolding reader.ctor_block
  ctor_sound ts r h =
      let a = eats y.OpenBrace ts _ r h in
      let f = bind_ok (reader.ctor_first room inner outer a.rest) _ r a.more in
      let front = front_sound a.rest f.0 f.1 in
      let all = bind_ok (reader.stmts room inner outer f.0.1) _ r f.2 in
      let found = stmts_sound room inner outer (suc room) outers f.0.1 all.0 all.1 in
      let b = eats y.CloseBrace all.0.1 _ r all.2 in
      subst (IsCtorBodyRead (suc room) ts) (ok_is b.more)
      (record {
        shaped = front.shaped all.0.0 found.shaped;
        low = front.low all.0.0 found.low;
        written = a.written
            ∙ ap (λ us. kind.Sym y.OpenBrace ∷ us)
            (front.written all.0.0 all.0.1 found.written ∙ ap (write_stmts (s.stmts (f.0.0 ++ all.0.0))) b.written);
      })

-- where there is no level, there is no statement
empty_body : (b : s.Block) → IsShapedCtorBody b → block_depth b ≤ 0 → IsShapedBlock b
empty_body (s.BlockOf (s.more_stmts (s.CtorCall called args) all)) h low = absurd (omega arith)
empty_body (s.BlockOf s.no_stmts) h low = h
empty_body (s.BlockOf (s.more_stmts a all)) h low = h

pub ctors_complete : IsCtorBodyComplete
ctors_complete zero b rest h low = bodies_complete zero b rest (empty_body b h low) low
ctors_complete (suc room) b rest h low = ctor_read room b rest h low

pub plain_body : (b : s.Block) → IsShapedBlock b → IsShapedCtorBody b
plain_body (s.BlockOf s.no_stmts) h = h
plain_body (s.BlockOf (s.more_stmts (s.CtorCall called args) all)) h = absurd h.0
plain_body (s.BlockOf (s.more_stmts a all)) h = h

pub ctors_sound : IsCtorBodySound
ctors_sound zero ts read h = let found = bodies_sound zero ts read h in record { shaped = plain_body read.0 found.shaped; low = found.low; written = found.written }
ctors_sound (suc room) ts read h = ctor_sound room ts read h
