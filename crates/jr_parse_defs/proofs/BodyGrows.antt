-- Where reading the body of a constructor stops, what stands before begins one.
use Rattle.std.proofs.Common.{◌≡◌, ℕ, zero, suc, ◌≤◌, true, false, List, [], ◌∷◌, ◌++◌, Ok, Err, refl, sym, ap, ◌∙◌, subst, inl, inr, arith}
use Rattle.std.proofs.lemmas.Bool.{cases_lt}
use Rattle.jr_base.specs.declared.kind.Kind.{Kind}
use Rattle.jr_base.specs.declared.kind.Kind.TheVariants as kind
use Rattle.jr_base.specs.declared.kind.Symbol.{Symbol}
use Rattle.jr_base.specs.declared.kind.Symbol.TheVariants as y
use Rattle.jr_base.specs.declared.kind.Keyword.TheVariants as k
use Rattle.jr_tree.specs.declared.tree.ThisOrSuper.{ThisOrSuper}
use Rattle.jr_tree.specs.declared.tree.ThisOrSuper.TheVariants as which
use Rattle.jr_tree.specs.Words.{which_word}
use Rattle.jr_tree.specs.Levels.{is_step}
use Rattle.jr_tree.specs.Shape.{IsStatementExpr, AreShapedExprs, IsShapedCtorBody}
use Rattle.jr_tree.specs.Depth.{expr_depth, exprs_depth, block_depth}
use Rattle.jr_tree.specs.Mirror.Exprs as x
use Rattle.jr_tree.specs.Mirror.Stmts as s
use Rattle.jr_parse_laws.specs.declared.fault.Fault.{Fault}
use Rattle.jr_parse_laws.specs.Parsers.{Parser, and_then, first, is_at, expect}
use Rattle.jr_parse_laws.proofs.Outcomes.{ok_err, is_symbol_is}
use Rattle.jr_parse_laws.proofs.Stops.{leading_nothing}
use Rattle.jr_parse_starts.specs.Starts.{next_is}
use Rattle.jr_parse_expr.specs.Exprs.{Lead, This, Super, goes_on_primary, goes_on_super, skipping, arguments, expr, list, effect}
use Rattle.jr_parse_expr.specs.Writing.{write_expr, write_lead}
use Rattle.jr_parse_expr.specs.Follow.{IsLed}
use Rattle.jr_parse_expr.proofs.Arguments.{arguments_sound}
use Rattle.jr_parse_expr.proofs.ExprReads.{all_read}
use Rattle.jr_parse_expr.proofs.Growths.{Growing, leading_then, leading_expr, sample}
use Rattle.jr_parse_expr.proofs.PartGrowths.{NoLevel, Deep, Refused, write_args, arguments_grow}
use Rattle.jr_parse_expr.proofs.AllGrowths.{all_grow}
use Rattle.jr_parse_defs.specs.Stmts as reader
use Rattle.jr_parse_defs.specs.Writing.{write_many, write_stmt, write_stmts, write_block}
use Rattle.jr_parse_defs.proofs.Expressions.{found_effect}
use Rattle.jr_parse_defs.proofs.Named.{ReadsOne}
use Rattle.jr_parse_defs.proofs.Blocks.{stmts_sound, stmts_many}
use Rattle.jr_parse_defs.proofs.Statements.{stmt_reads}
use Rattle.jr_parse_defs.proofs.Bodies.{front_sound, plain_body}
use Rattle.jr_parse_defs.proofs.Grows.{Low, part, gone, deeps, seen, on, last, symbol_on, ends_with, choose, leading_many, many_append}
use Rattle.jr_parse_defs.proofs.PartGrows.{leading_exprs, effect_grow, no_this, no_super}
use Rattle.jr_parse_defs.proofs.Starters.{empty, leading_stmt, leading_stmts, leading_word, leading_symbol}
use Rattle.jr_parse_defs.proofs.BlockGrows.{stmts_grow, as_stmts, low_stmts}
use Rattle.jr_parse_defs.proofs.StmtGrows.{stmt_grow, body_grow_at}

-- an expression that goes on behind `this` with the token
record ThisStarter (token : Kind) : Type 0 where
  tree : x.Expr
  is : IsStatementExpr tree
  more : List Kind → List Kind
  spelled : (z : List Kind) → write_expr tree z ≡ kind.Word k.This ∷ token ∷ more z

this_step : (op : Symbol) → is_step op ≡ true → ThisStarter (kind.Sym op)
this_step op h = record { tree = x.PostStep sample op; is = (refl, (h, (omega arith, refl), tt)); more = λ z. z; spelled = λ z. refl }

this_starter : (token : Kind) → goes_on_primary token ≡ true → ThisStarter token
this_starter (kind.Sym y.Dot) h = record {
  tree = x.Call (x.a_receiver (x.Of sample)) [] x.no_exprs;
  is = (refl, ((((omega arith, refl), refl), tt), tt));
  more = λ z. kind.Ident [] ∷ kind.Sym y.OpenParen ∷ kind.Sym y.CloseParen ∷ z;
  spelled = λ z. refl;
}
this_starter (kind.Sym y.OpenBracket) h = record {
  tree = x.PostStep (x.Index sample sample) y.PlusPlus;
  is = (refl, (refl, (omega arith, refl), (((omega arith, refl), refl), tt, (omega arith, refl), tt)));
  more = λ z. kind.Word k.This ∷ kind.Sym y.CloseBracket ∷ kind.Sym y.PlusPlus ∷ z;
  spelled = λ z. refl;
}
this_starter (kind.Sym s) h = this_step s h
this_starter token h = absurd (cc)

module _ (room : ℕ) where
  abbrev inner : Parser s.Stmt
  inner = reader.stmt room false

  abbrev outer : Parser s.Stmt
  outer = reader.stmt (suc room) true

  abbrev outers : ReadsOne (suc room) true outer
  outers = stmt_reads (suc room) true

  abbrev Goal : List Kind → Fault × List Kind → Type 0
  Goal ts stop = Growing (Low IsShapedCtorBody block_depth) write_block (suc room) ts stop

  abbrev opened : List Kind → List Kind
  opened z = kind.Sym y.OpenBrace ∷ z

  abbrev over : List Kind → List Kind
  over z = kind.Sym y.Semicolon ∷ kind.Sym y.CloseBrace ∷ z

  -- ---- the first statement

  abbrev calling : ThisOrSuper → x.Exprs → s.Block
  calling called args = s.BlockOf (s.more_stmts (s.CtorCall called args) s.no_stmts)

  abbrev evaluating : x.Expr → s.Block
  evaluating e = s.BlockOf (s.more_stmts (s.Eval e) s.no_stmts)

  eval_part : {ts : List Kind} {stop : Fault × List Kind} → Growing (Low IsStatementExpr expr_depth) write_expr room ts stop → Goal (opened ts) stop
  eval_part g = part (leading_symbol y.OpenBrace) evaluating over (λ e z. refl) (λ e is. (is, tt)) (λ e l. omega arith) g

  args_grow : (ts : List Kind) (stop : Fault × List Kind) → arguments room (expr room) (list room) ts ≡ Err stop → Growing (Low AreShapedExprs exprs_depth) write_args room ts stop
  args_grow ts stop h =
      let read = all_read room in
      let grow = all_grow room in
      seen room ts stop (λ r all is. (is.0, is.1)) (arguments_grow room (expr room) (list room) read.exprs read.lists grow.exprs grow.lists ts stop h)

  this_gone : (ts : List Kind) (stop : Fault × List Kind) → NoLevel (next_is goes_on_primary) ts stop → Goal (opened (kind.Word k.This ∷ ts)) stop
  this_gone ts stop (Refused f e) =
      gone e (leading_then (leading_symbol y.OpenBrace) (leading_word k.This)) (calling which.This x.no_exprs) (λ z. kind.Sym y.OpenParen ∷ kind.Sym y.CloseParen ∷ over z) (λ z. refl) (tt, tt) (omega arith)
  this_gone [] stop (Deep f e) = absurd (cc)
  this_gone (token ∷ ts) stop (Deep f e) =
      let a = this_starter token f in
      deeps e (leading_then (leading_symbol y.OpenBrace) (leading_word k.This)) (calling which.This x.no_exprs) (λ z. kind.Sym y.OpenParen ∷ kind.Sym y.CloseParen ∷ over z) (λ z. refl) (tt, tt) (omega arith)
      (evaluating a.tree) (λ z. a.more (over z)) (λ z. ap (λ ts. kind.Sym y.OpenBrace ∷ ts) (a.spelled (over z))) (a.is, tt)

  this_grow : (ts : List Kind) (stop : Fault × List Kind) → effect room This ts ≡ Err stop → Goal (opened (kind.Word k.This ∷ ts)) stop
  this_grow ts stop e =
      elim (cases_lt 1 room) [
        | inl some ↦ eval_part (effect_grow room This some ts stop tt e)
        | inr low ↦ this_gone ts stop (no_this room low ts stop e)
      ]

  super_gone : (ts : List Kind) (stop : Fault × List Kind) → NoLevel (next_is goes_on_super) ts stop → Goal (opened (kind.Word k.Super ∷ ts)) stop
  super_gone ts stop (Refused f e) =
      gone e (leading_then (leading_symbol y.OpenBrace) (leading_word k.Super)) (calling which.Super x.no_exprs) (λ z. kind.Sym y.OpenParen ∷ kind.Sym y.CloseParen ∷ over z) (λ z. refl) (tt, tt) (omega arith)
  super_gone [] stop (Deep f e) = absurd (cc)
  super_gone (kind.Sym y.Dot ∷ ts) stop (Deep f e) =
      deeps e (leading_then (leading_symbol y.OpenBrace) (leading_word k.Super)) (calling which.Super x.no_exprs) (λ z. kind.Sym y.OpenParen ∷ kind.Sym y.CloseParen ∷ over z) (λ z. refl) (tt, tt) (omega arith)
      (evaluating (x.Call (x.a_receiver x.Super) [] x.no_exprs)) (λ z. kind.Ident [] ∷ kind.Sym y.OpenParen ∷ kind.Sym y.CloseParen ∷ over z) (λ z. refl) ((refl, (tt, tt)), tt)
  super_gone (token ∷ ts) stop (Deep f e) = absurd (cc)

  super_grow : (ts : List Kind) (stop : Fault × List Kind) → effect room Super ts ≡ Err stop → Goal (opened (kind.Word k.Super ∷ ts)) stop
  super_grow ts stop e =
      elim (cases_lt 0 room) [
        | inl some ↦ eval_part (effect_grow room Super some ts stop tt e)
        | inr low ↦ super_gone ts stop (no_super room low ts stop e)
      ]

  call_grow : (called : ThisOrSuper) (lead : Lead) (ts : List Kind) (stop : Fault × List Kind) → IsLed lead (first ts) → kind.Word (which_word called) ∷ ts ≡ write_lead lead ts → reader.ctor_call room inner outer called lead ts ≡ Err stop
      → (effect room lead ts ≡ Err stop → Goal (opened (kind.Word (which_word called) ∷ ts)) stop) → Goal (opened (kind.Word (which_word called) ∷ ts)) stop
  call_grow called lead ts stop led same h one =
      let front = leading_then (leading_symbol y.OpenBrace) (leading_then (leading_word (which_word called)) (leading_symbol y.OpenParen)) in
      choose (is_at y.OpenParen ts) h
      (λ t g. called_grow ts t g)
      (λ f g. on g one
      (λ v us e d.
      let found = found_effect room lead ts (v, us) led e in
      let low = found.low in
      subst (λ ts. Goal (opened ts) stop) (sym (same ∙ found.written))
      (gone (ends_with y.Semicolon us d (λ u us d. ok_err d)) (leading_then (leading_symbol y.OpenBrace) (leading_expr v)) (evaluating v) over (λ z. refl) (found.is, tt) (omega arith)))) where
        behind_args : (us : List Kind) → and_then (arguments room (expr room) (list room) us) (λ args ts. and_then (expect y.Semicolon ts) (λ u ts. Ok (s.CtorCall called (x.exprs args), ts))) ≡ Err stop
            → Goal (opened (kind.Word (which_word called) ∷ kind.Sym y.OpenParen ∷ us)) stop
        behind_args us g =
            let front = leading_then (leading_symbol y.OpenBrace) (leading_then (leading_word (which_word called)) (leading_symbol y.OpenParen)) in
            on g (λ e. part front (λ args. calling called args) over (λ args z. refl) (λ args is. (is, tt)) (λ args l. omega arith) (args_grow us stop e))
            (λ args vs e d.
            let found = arguments_sound room (expr room) (list room) (all_read room).exprs us (args, vs) e in
            let low : exprs_depth (x.exprs args) ≤ room = found.low in
            subst (λ us. Goal (opened (kind.Word (which_word called) ∷ kind.Sym y.OpenParen ∷ us)) stop) (sym found.written)
            (gone (ends_with y.Semicolon vs d (λ u us d. ok_err d)) (leading_then front (leading_then (leading_exprs (x.exprs args)) (leading_symbol y.CloseParen))) (calling called (x.exprs args)) over (λ z. refl) (found.shaped, tt) (omega arith)))

        called_grow : (ts : List Kind) → is_at y.OpenParen ts ≡ true
            → skipping (λ us. and_then (arguments room (expr room) (list room) us) (λ args ts. and_then (expect y.Semicolon ts) (λ u ts. Ok (s.CtorCall called (x.exprs args), ts)))) ts ≡ Err stop → Goal (opened (kind.Word (which_word called) ∷ ts)) stop
        called_grow [] t g = absurd (cc)
        called_grow (token ∷ us) t g = subst (λ token. Goal (opened (kind.Word (which_word called) ∷ token ∷ us)) stop) (sym (is_symbol_is y.OpenParen token t)) (behind_args us g)

  first_grow : (ts : List Kind) (stop : Fault × List Kind) → reader.ctor_first room inner outer ts ≡ Err stop → Goal (opened ts) stop
  unfolding reader.ctor_first
  first_grow [] stop h = absurd (ok_err h)
  first_grow (kind.Word k.This ∷ ts) stop h = call_grow which.This This ts stop tt refl (last h (λ a us d. ok_err d)) (λ e. this_grow ts stop e)
  first_grow (kind.Word k.Super ∷ ts) stop h = call_grow which.Super Super ts stop tt refl (last h (λ a us d. ok_err d)) (λ e. super_grow ts stop e)
  first_grow (token ∷ ts) stop h = absurd (ok_err h)

  -- ---- the body

  after_front : (front all : List s.Stmt) (z : List Kind) → write_stmts (s.stmts (front ++ all)) z ≡ write_many write_stmt front (write_many write_stmt all z)
  after_front front all z = sym (stmts_many (front ++ all) z) ∙ many_append write_stmt front all z

  ctor_at_grow : (ts : List Kind) (stop : Fault × List Kind) → reader.ctor_body (suc room) ts ≡ Err stop → Goal ts stop
  unfolding reader.ctor_block
  ctor_at_grow ts stop h =
      let grow_out = stmt_grow (suc room) true in
      symbol_on y.OpenBrace ts (λ ts. Goal ts stop) h
      (λ g. gone g leading_nothing empty (λ z. opened (kind.Sym y.CloseBrace ∷ z)) (λ z. refl) tt (omega arith))
      (λ u us d. on d (λ e. first_grow us stop e)
      (λ front vs e d.
      let f = front_sound room us (front, vs) e in
      let into = leading_then (leading_symbol y.OpenBrace) (leading_many write_stmt leading_stmt front) in
      let split : us ≡ write_many write_stmt front vs = f.written [] vs refl ∙ after_front front [] vs in
      subst (λ us. Goal (opened us) stop) (sym split)
      (on d
      (λ e. part into (λ all. s.BlockOf (s.stmts (front ++ all))) (λ z. kind.Sym y.CloseBrace ∷ z) (λ all z. ap opened (after_front front all (kind.Sym y.CloseBrace ∷ z))) (λ all is. f.shaped all (as_stmts room inner outer (suc room) outers grow_out all is))
      (λ all l. f.low all (low_stmts room inner outer (suc room) outers grow_out all l)) (stmts_grow room inner outer (suc room) outers grow_out vs stop e))
      (λ all ws e d.
      let found = stmts_sound room inner outer (suc room) outers vs (all, ws) e in
      subst (λ vs. Goal (opened (write_many write_stmt front vs)) stop) (sym found.written)
      (gone (ends_with y.CloseBrace ws d (λ u us d. ok_err d)) (leading_then into (leading_stmts (s.stmts all))) (s.BlockOf (s.stmts (front ++ all))) (λ z. kind.Sym y.CloseBrace ∷ z)
      (λ z. ap opened (after_front front all (kind.Sym y.CloseBrace ∷ z) ∙ ap (write_many write_stmt front) (stmts_many all (kind.Sym y.CloseBrace ∷ z)))) (f.shaped all found.shaped) (f.low all found.low))))))

pub ctor_grow : (room : ℕ) (ts : List Kind) (stop : Fault × List Kind) → reader.ctor_body room ts ≡ Err stop → Growing (Low IsShapedCtorBody block_depth) write_block room ts stop
ctor_grow zero ts stop h = part leading_nothing (λ b. b) (λ z. z) (λ b z. refl) plain_body (λ b l. l) (body_grow_at zero ts stop h)
ctor_grow (suc room) ts stop h = ctor_at_grow room ts stop h
