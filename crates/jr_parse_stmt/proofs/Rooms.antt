-- Statements and bodies by the levels that are left.
use Rattle.std.proofs.Common.{◌≡◌, ℕ, zero, suc, ◌-◌, ◌<◌, Bool, true, false, cond, List, [], ◌∷◌, ◌++◌, refl, sym, ap, ◌∙◌, subst, arith}
use Rattle.jr_base.specs.declared.kind.Symbol.TheVariants as y
use Rattle.jr_base.specs.declared.kind.Kind.{Kind}
use Rattle.jr_base.specs.declared.kind.Kind.TheVariants as kind
use Rattle.jr_base.specs.declared.kind.Keyword.TheVariants as k
use Rattle.jr_tree.specs.Mirror.Stmts as s
use Rattle.jr_parse_laws.specs.declared.fault.Fault.{Fault}
use Rattle.jr_parse_laws.specs.declared.fault.Fault.TheVariants.{NoTree, TooDeep}
use Rattle.jr_parse_laws.specs.Parsers.{Outcome, Parser, and_then, pure, expect, first, many, Fails}
use Rattle.jr_parse_laws.proofs.Outcomes.{and_then_alike}
use Rattle.jr_parse_expr.proofs.Rooms.{lowest_fails}
use Rattle.jr_parse_defs.specs.Begins.{starts_block_stmt, starts_stmt}
use Rattle.jr_parse_defs.specs.Stmts as rule
use Rattle.jr_parse_stmt.specs.Nests.{in_room}
use Rattle.jr_parse_stmt.specs.Bodies.{more_stmts, ctor_block}
use Rattle.jr_parse_stmt.proofs.Viewed.{fronted}

one_less : (room : ℕ) → 0 < room → suc (room - 1) ≡ room
one_less room h = omega arith

-- ---- statements

pub stmt_fails : (room : ℕ) (declares : Bool) (ts : List Kind) (f : Fault) → room ≡ 0 → f ≡ cond (cond declares (starts_block_stmt (first ts)) (starts_stmt (first ts))) TooDeep NoTree → Fails (rule.stmt room declares ts) f ts
unfolding rule.stmt
stmt_fails room true ts f h e = subst (λ n. Fails (rule.stmt n true ts) f ts) (sym h) (lowest_fails s.Stmt starts_block_stmt ts f e)
stmt_fails room false ts f h e = subst (λ n. Fails (rule.stmt n false ts) f ts) (sym h) (lowest_fails s.Stmt starts_stmt ts f e)

pub stmt_below : (room : ℕ) (declares : Bool) (ts : List Kind) → 0 < room → rule.stmt room declares ts ≡ in_room rule.stmt_of (room - 1) declares ts
unfolding rule.stmt
stmt_below room declares ts h = ap (λ n. rule.stmt n declares ts) (sym (one_less room h))

-- ---- the bodies of constructors

pub ctor_lowest : (room : ℕ) (ts : List Kind) → room ≡ 0 → rule.ctor_body room ts ≡ rule.body room ts
ctor_lowest room ts h = subst (λ n. rule.ctor_body n ts ≡ rule.body n ts) (sym h) refl

module _ (room : ℕ) (inner outer inner' outer' : Parser s.Stmt) where
  first_by_any : (token : Kind) (ts : List Kind) → rule.ctor_first_by room inner outer token ts ≡ rule.ctor_first_by room inner' outer' token ts
  first_by_any (kind.Word k.This) ts = refl
  first_by_any (kind.Word k.Super) ts = refl
  first_by_any token ts = refl

  -- the first statement has no other in it
  first_any : (ts : List Kind) → rule.ctor_first room inner outer ts ≡ rule.ctor_first room inner' outer' ts
  unfolding rule.ctor_first
  first_any [] = refl
  first_any (token ∷ ts) = first_by_any token (token ∷ ts)

-- the body, with the levels of its first statement
block_at : ℕ → ℕ → Parser s.Block
block_at below room ts =
    and_then (expect y.OpenBrace ts) (λ u us. and_then (in_room rule.ctor_first below us) (λ front vs. and_then (more_stmts room front vs)
    (λ all ws. and_then (expect y.CloseBrace ws) (λ v. pure (s.BlockOf (s.stmts all))))))

block_is : (room : ℕ) (ts : List Kind) → rule.ctor_block room (rule.stmt room false) (rule.stmt (suc room) true) ts ≡ block_at room (suc room) ts
unfolding rule.ctor_block rule.stmts block_at
block_is room ts =
    and_then_alike (expect y.OpenBrace ts)
    (λ u us. and_then (rule.ctor_first room (rule.stmt room false) (rule.stmt (suc room) true) us) (λ front vs. and_then (many starts_block_stmt (rule.stmt (suc room) true) vs)
    (λ all ws. and_then (expect y.CloseBrace ws) (λ v. pure (s.BlockOf (s.stmts (front ++ all)))))))
    (λ u us. and_then (in_room rule.ctor_first room us) (λ front vs. and_then (more_stmts (suc room) front vs)
    (λ all ws. and_then (expect y.CloseBrace ws) (λ v. pure (s.BlockOf (s.stmts all))))))
    (λ u us.
    ap (λ o. and_then o (λ front vs. and_then (many starts_block_stmt (rule.stmt (suc room) true) vs) (λ all ws. and_then (expect y.CloseBrace ws) (λ v. pure (s.BlockOf (s.stmts (front ++ all)))))))
    (first_any room (rule.stmt room false) (rule.stmt (suc room) true) (rule.stmt room false) (rule.stmt room true) us)
    ∙ and_then_alike (in_room rule.ctor_first room us)
    (λ front vs. and_then (many starts_block_stmt (rule.stmt (suc room) true) vs) (λ all ws. and_then (expect y.CloseBrace ws) (λ v. pure (s.BlockOf (s.stmts (front ++ all))))))
    (λ front vs. and_then (more_stmts (suc room) front vs) (λ all ws. and_then (expect y.CloseBrace ws) (λ v. pure (s.BlockOf (s.stmts all)))))
    (λ front vs. sym (fronted front (many starts_block_stmt (rule.stmt (suc room) true) vs) (λ all ts. and_then (expect y.CloseBrace ts) (λ u. pure (s.BlockOf (s.stmts all)))))))

block_here : (room : ℕ) (ts : List Kind) → block_at (room - 1) room ts ≡ ctor_block room ts
unfolding block_at
block_here room ts = refl

pub ctor_below : (room : ℕ) (ts : List Kind) → 0 < room → rule.ctor_body room ts ≡ ctor_block room ts
ctor_below zero ts h = absurd (omega arith)
ctor_below (suc room) ts h =
    let e : room ≡ suc room - 1 = omega arith in
    block_is room ts ∙ ap (λ n. block_at n (suc room) ts) e ∙ block_here (suc room) ts
