-- The bodies of constructors are read the same whatever stands behind, and with more levels.
use Rattle.std.proofs.Common.{◌≡◌, ℕ, zero, suc, ◌≤◌, Bool, true, false, cond, List, [], ◌∷◌, ◌++◌, Option, Some, None, Ok, Err, refl, sym, ap, ◌∙◌, subst, arith}
use Rattle.jr_base.specs.declared.kind.Kind.{Kind}
use Rattle.jr_base.specs.declared.kind.Kind.TheVariants as kind
use Rattle.jr_base.specs.declared.kind.Symbol.TheVariants as y
use Rattle.jr_base.specs.declared.kind.Keyword.TheVariants as k
use Rattle.jr_tree.specs.declared.tree.ThisOrSuper.{ThisOrSuper}
use Rattle.jr_tree.specs.declared.tree.ThisOrSuper.TheVariants as which
use Rattle.jr_tree.specs.Mirror.Exprs as x
use Rattle.jr_tree.specs.Mirror.Stmts as s
use Rattle.jr_parse_laws.specs.declared.fault.Fault.TheVariants.{TooDeep}
use Rattle.jr_parse_laws.specs.Parsers.{Parser, and_then, first, pure, expect, ◌>>=◌, ◌>>◌}
use Rattle.jr_parse_laws.proofs.Lists.{many_turn}
use Rattle.jr_parse_expr.specs.Exprs.{Lead, This, Super, arguments, expr, list}
use Rattle.jr_parse_expr.proofs.ExprReads.{all_read}
use Rattle.jr_parse_expr.proofs.Locals.{Kept, on_kept, looks_first, kept_same}
use Rattle.jr_parse_expr.proofs.AllLocals.{all_local}
use Rattle.jr_parse_expr.proofs.ExprLocals.{arguments_local}
use Rattle.jr_parse_defs.specs.Begins.{starts_block_stmt}
use Rattle.jr_parse_defs.specs.Stmts as reader
use Rattle.jr_parse_defs.specs.Writing.{write_stmt}
use Rattle.jr_parse_defs.specs.Follow.{IsStmt}
use Rattle.jr_parse_defs.proofs.Lists.{shortens_by}
use Rattle.jr_parse_defs.proofs.Blocks as blocks
use Rattle.jr_parse_defs.proofs.Statements.{stmt_reads}
use Rattle.jr_parse_defs.proofs.Bodies.{is_own}
use Rattle.jr_parse_defs.proofs.Nears.{Near, then, gives, symbol, skips, if_at}
use Rattle.jr_parse_defs.proofs.PartNears.{Unnamed}
use Rattle.jr_parse_defs.proofs.StmtNears.{stmts_near, evaluated_near, stmt_near, body_near, stmt_zero, raise}

-- ---- the first statement

module _ (room other : ℕ) (le : room ≤ other) where
  args_near : Near room other le (arguments room (expr room) (list room)) (arguments other (expr other) (list other))
  args_near =
      let one = all_read room in
      let two = all_read other in
      let near = all_local room other le in
      record { kept = arguments_local room other le (expr room) (expr other) (list room) (list other) one.exprs two.exprs near.exprs near.lists }

  led_near : (lead : Lead) → Unnamed lead
      → Near room other le (reader.evaluated room (reader.stmt room false) (reader.stmt room true) lead) (reader.evaluated other (reader.stmt other false) (reader.stmt other true) lead)
  led_near lead is =
      evaluated_near room other le (reader.stmt room false) (reader.stmt other false) (reader.stmt room true) (reader.stmt other true) (stmt_reads room true) (stmt_reads other true) (stmt_near room other le false) (stmt_near room other le true) lead is

  abbrev call_at : ℕ → ThisOrSuper → Lead → Parser s.Stmt
  call_at r = reader.ctor_call r (reader.stmt r false) (reader.stmt (suc r) true)

  call_near : (called : ThisOrSuper) (lead : Lead) → Unnamed lead → Near room other le (call_at room called lead) (call_at other called lead)
  call_near called lead is = if_at y.OpenParen (skips (then args_near (λ args. then (symbol y.Semicolon) (λ u. gives (s.CtorCall called (x.exprs args)))))) (led_near lead is)

  abbrev front_by : ℕ → Kind → Parser (List s.Stmt)
  front_by r = reader.ctor_first_by r (reader.stmt r false) (reader.stmt (suc r) true)

  abbrev front_at : ℕ → Parser (List s.Stmt)
  front_at r = reader.ctor_first r (reader.stmt r false) (reader.stmt (suc r) true)

  nothing_near : Near room other le {A = List s.Stmt} (pure []) (pure [])
  nothing_near = gives []

  front_by_kept : (token : Kind) (ts : List Kind) → Kept room other le (front_by other token) (token ∷ ts) (front_by room token (token ∷ ts))
  front_by_kept (kind.Word k.This) ts = (skips (then (call_near which.This This tt) (λ a. gives (a ∷ [])))).kept (kind.Word k.This ∷ ts)
  front_by_kept (kind.Word k.Super) ts = (skips (then (call_near which.Super Super tt) (λ a. gives (a ∷ [])))).kept (kind.Word k.Super ∷ ts)
  front_by_kept token ts = nothing_near.kept (token ∷ ts)

  abbrev front_told : ℕ → Option Kind → Parser (List s.Stmt)
  front_told r None = pure []
  front_told r (Some token) = front_by r token

  front_told_is : (r : ℕ) (ts : List Kind) → front_told r (first ts) ts ≡ front_at r ts
  unfolding reader.ctor_first
  front_told_is r [] = refl
  front_told_is r (token ∷ ts) = refl

  front_told_kept : (ts : List Kind) → Kept room other le (front_told other (first ts)) ts (front_told room (first ts) ts)
  front_told_kept [] = nothing_near.kept []
  front_told_kept (token ∷ ts) = front_by_kept token ts

  front_near : Near room other le (front_at room) (front_at other)
  front_near = record {
    kept = λ ts. subst (Kept room other le (front_at other) ts) (front_told_is room ts)
        (kept_same room other le (λ us. front_told other (first us) us) (front_at other) (front_told_is other) ts (front_told room (first ts) ts)
        (on_kept room other le first (front_told other) (looks_first room other le (λ o. o)) ts (front_told room (first ts) ts) (front_told_kept ts)));
  }

-- ---- the body

abbrev close : Parser (List s.Stmt) → List s.Stmt → Parser s.Block
close stmts front = stmts >>= (λ all. expect y.CloseBrace >> pure (s.BlockOf (s.stmts (front ++ all))))

abbrev stmts_at : ℕ → Parser (List s.Stmt)
stmts_at room = reader.stmts room (reader.stmt room false) (reader.stmt (suc room) true)

ctor_at_near : (room other : ℕ) (le : room ≤ other) (le' : suc room ≤ suc other) → Near (suc room) (suc other) le' (reader.ctor_body (suc room)) (reader.ctor_body (suc other))
unfolding reader.ctor_block
ctor_at_near room other le le' =
    then (symbol y.OpenBrace) (λ u. then (raise room other le le' (front_near room other le)) (λ front.
    then (stmts_near (suc room) (suc other) le' room other (suc room) (suc other) (reader.stmt room false) (reader.stmt other false) (reader.stmt (suc room) true) (reader.stmt (suc other) true) (stmt_reads (suc room) true) (stmt_reads (suc other) true)
    (stmt_near (suc room) (suc other) le' true)) (λ all. then (symbol y.CloseBrace) (λ v. gives (s.BlockOf (s.stmts (front ++ all)))))))

-- where there is no level, a body without statements is read with more levels too

abbrev none : Parser (List s.Stmt)
none = reader.stmts zero (reader.stmt zero false) (reader.stmt zero true)

own_starts : (ts : List Kind) → is_own (first ts) ≡ true → starts_block_stmt (first ts) ≡ true
own_starts [] h = absurd (cc)
own_starts (kind.Word k.This ∷ ts) h = refl
own_starts (kind.Word k.Super ∷ ts) h = refl
own_starts (token ∷ ts) h = absurd (cc)

too_deep : (ts : List Kind) → starts_block_stmt (first ts) ≡ true → none ts ≡ Err (TooDeep, ts)
unfolding reader.stmts
too_deep ts h =
    many_turn starts_block_stmt (reader.stmt zero true) refl (shortens_by (IsStmt zero true) write_stmt (reader.stmt zero true) (blocks.stmts_item zero (reader.stmt zero false) (reader.stmt zero true) zero (stmt_reads zero true)) (blocks.stmt_longer zero)) ts h
    ∙ rw (stmt_zero true ts, h) refl

no_front : (room : ℕ) (ts : List Kind) → is_own (first ts) ≡ false → reader.ctor_first room (reader.stmt room false) (reader.stmt (suc room) true) ts ≡ Ok ([], ts)
unfolding reader.ctor_first
no_front room [] h = refl
no_front room (kind.Word k.This ∷ ts) h = absurd (cc)
no_front room (kind.Word k.Super ∷ ts) h = absurd (cc)
no_front room (token ∷ ts) h = refl

module _ (other : ℕ) (le : zero ≤ suc other) where
  abbrev whole : Parser s.Block
  whole = reader.ctor_first other (reader.stmt other false) (reader.stmt (suc other) true) >>= close (stmts_at other)

  whole_is : (b : Bool) (ts : List Kind) → is_own (first ts) ≡ b → cond b (whole ts) (close (stmts_at other) [] ts) ≡ whole ts
  whole_is true ts h = refl
  whole_is false ts h = sym (ap (λ o. and_then o (close (stmts_at other))) (no_front other ts h))

  rest_near : Near zero (suc other) le (close none []) (close (stmts_at other) [])
  rest_near =
      then (stmts_near zero (suc other) le zero other zero (suc other) (reader.stmt zero false) (reader.stmt other false) (reader.stmt zero true) (reader.stmt (suc other) true) (stmt_reads zero true) (stmt_reads (suc other) true) (stmt_near zero (suc other) le true))
      (λ all. then (symbol y.CloseBrace) (λ v. gives (s.BlockOf (s.stmts all))))

  never_kept : (q : Parser s.Block) (ts : List Kind) → is_own (first ts) ≡ true → Kept zero (suc other) le q ts (close none [] ts)
  never_kept q ts h =
      subst (Kept zero (suc other) le q ts) (sym (ap (λ o. and_then o (λ all. expect y.CloseBrace >> pure (s.BlockOf (s.stmts all)))) (too_deep ts (own_starts ts h)))) (λ wider. absurd (let e : suc other ≡ zero = wider in omega arith))

  by_own : (ts : List Kind) (b : Bool) → is_own (first ts) ≡ b → Kept zero (suc other) le (λ us. cond b (whole us) (close (stmts_at other) [] us)) ts (close none [] ts)
  by_own ts true h = never_kept whole ts h
  by_own ts false h = rest_near.kept ts

  opened_near : Near zero (suc other) le (close none []) whole
  opened_near = record {
    kept = λ ts. kept_same zero (suc other) le (λ us. cond (is_own (first us)) (whole us) (close (stmts_at other) [] us)) whole (λ us. whole_is (is_own (first us)) us refl) ts (close none [] ts)
        (on_kept zero (suc other) le (λ us. is_own (first us)) (λ b us. cond b (whole us) (close (stmts_at other) [] us)) (looks_first zero (suc other) le is_own) ts (close none [] ts) (by_own ts (is_own (first ts)) refl));
  }

  empty_near : Near zero (suc other) le (reader.ctor_body zero) (reader.ctor_body (suc other))
  unfolding reader.block reader.ctor_block
  empty_near = then (symbol y.OpenBrace) (λ u. opened_near)

pub ctor_near : (room other : ℕ) (le : room ≤ other) → Near room other le (reader.ctor_body room) (reader.ctor_body other)
ctor_near zero zero le = body_near zero zero le
ctor_near zero (suc other) le = empty_near other le
ctor_near (suc room) zero le = absurd (omega arith)
ctor_near (suc room) (suc other) le = ctor_at_near room other (omega arith) le
