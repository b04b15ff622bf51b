-- That loops come nearer to the end of the tokens.
use Rattle.std.proofs.Common.{◌≡◌, ℕ, suc, ◌<◌, ◌≤◌, true, List, [], ◌∷◌, drop, length, Ok, arith}
use Rattle.std.proofs.lemmas.List.{length-map}
use Rattle.jr_base.specs.declared.kind.Symbol.{Symbol}
use Rattle.jr_base.specs.declared.kind.Symbol.TheVariants as y
use Rattle.jr_base.specs.declared.kind.Kind.{Kind}
use Rattle.jr_base.specs.declared.token.Token.{Token}
use Rattle.jr_tree.specs.Mirror.Exprs as x
use Rattle.jr_parse_laws.specs.declared.cursor.Cursor.{Cursor}
use Rattle.jr_parse_laws.specs.Parsers.{kinds, is_at, expect}
use Rattle.jr_parse_laws.proofs.Turns.{expect_keeps}
use Rattle.jr_parse_expr.specs.Exprs.{Nothing, expr, list, init}
use Rattle.jr_parse_expr.proofs.Keeps.{expr_keeps, init_keeps}

pub fewer_tokens : (old new : Cursor) → length (kinds new) < length (kinds old) → length new.rest.now < length old.rest.now
fewer_tokens old new h =
    let a = length-map old.rest.now (λ (t : Token). t.kind) in
    let b = length-map new.rest.now (λ (t : Token). t.kind) in
    omega arith

behind_one : (s : Symbol) (ts : List Kind) → is_at s ts ≡ true → length (drop 1 ts) < length ts
behind_one s [] h = absurd (cc)
behind_one s (k ∷ ts) h = omega arith

pub expr_shorter : (room : ℕ) (s : Symbol) (ts : List Kind) (e : x.Expr) (rest : List Kind) → is_at s ts ≡ true → expr room Nothing 0 (drop 1 ts) ≡ Ok (e, rest) → length rest < length ts
expr_shorter room s ts e rest h r = let a = behind_one s ts h in let b = expr_keeps room Nothing 0 (drop 1 ts) e rest r in omega arith

pub size_shorter : (room : ℕ) (ts : List Kind) (e : x.Expr) (mid : List Kind) (u : Unit {0}) (rest : List Kind) → is_at y.OpenBracket ts ≡ true → expr room Nothing 0 (drop 1 ts) ≡ Ok (e, mid)
    → expect y.CloseBracket mid ≡ Ok (u, rest) → length rest < length ts
size_shorter room ts e mid u rest h r q = let a = expr_shorter room y.OpenBracket ts e mid h r in let b = expect_keeps y.CloseBracket mid u rest q in omega arith

pub item_shorter : (room : ℕ) (ts : List Kind) (i : x.Init) (rest : List Kind) → is_at y.Comma ts ≡ true → init room (drop 1 ts) ≡ Ok (i, rest) → length rest < length ts
item_shorter room ts i rest h r = let a = behind_one y.Comma ts h in let b = init_keeps room (drop 1 ts) i rest r in omega arith
