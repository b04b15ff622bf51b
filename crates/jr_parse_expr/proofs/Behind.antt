-- What the loops over arguments, sizes and items keep, at a number of levels.
use Rattle.std.proofs.Common.{◌≡◌, ℕ, suc, true, false, List, [], ◌∷◌, ◌++◌, drop, map, Ok, sym, ap, ◌∙◌}
use Rattle.std.proofs.lemmas.List.{map-append}
use Rattle.jr_base.specs.declared.kind.Symbol.TheVariants as y
use Rattle.jr_base.specs.declared.kind.Kind.{Kind}
use Rattle.jr_tree.specs.declared.tree.Expr.{Expr}
use Rattle.jr_tree.specs.declared.tree.Init.{Init}
use Rattle.jr_tree.specs.Mirror.Exprs as x
use Rattle.jr_tree.specs.Mirror.Exprs.{plain_expr, plain_init}
use Rattle.jr_parse_laws.specs.declared.fault.Fault.{Fault}
use Rattle.jr_parse_laws.specs.Parsers.{first, is_at, expect, with_front, Fails}
use Rattle.jr_parse_laws.proofs.Turns.{behind_more, behind_fails, behind_done}
use Rattle.jr_parse_expr.specs.Names.{dims}
use Rattle.jr_parse_starts.specs.Starts.{starts_init}
use Rattle.jr_parse_expr.specs.Exprs as spec
use Rattle.jr_parse_expr.specs.Exprs.{Nothing, expr, list, init}
use Rattle.jr_parse_expr.specs.Steps.{more_exprs, with_sizes, with_items}
use Rattle.jr_parse_expr.proofs.Keeps.{expr_keeps, init_keeps}
use Rattle.jr_parse_expr.proofs.Listing as listing

with_one : {B : Type 0} (f : List x.Expr → B) (front : List Expr) (e : Expr) → f (map plain_expr front ++ plain_expr e ∷ []) ≡ f (map plain_expr (front ++ e ∷ []))
with_one f front e = ap f (sym (map-append plain_expr front (e ∷ [])))

with_one_item : {B : Type 0} (f : List x.Init → B) (front : List Init) (i : Init) → f (map plain_init front ++ plain_init i ∷ []) ≡ f (map plain_init (front ++ i ∷ []))
with_one_item f front i = ap f (sym (map-append plain_init front (i ∷ [])))

module _ (room : ℕ) where
  -- ---- expressions with commas between them

  pub exprs_more : (front : List Expr) (ts : List Kind) (e : Expr) (rest : List Kind) → is_at y.Comma ts ≡ true → expr room Nothing 0 (drop 1 ts) ≡ Ok (plain_expr e, rest)
      → with_front (map plain_expr front) (more_exprs (expr room) ts) ≡ with_front (map plain_expr (front ++ e ∷ [])) (more_exprs (expr room) rest)
  exprs_more front ts e rest h r =
      behind_more y.Comma (expr room Nothing 0) (expr_keeps room Nothing 0) (map plain_expr front) ts (plain_expr e) rest h r ∙ with_one (λ l. with_front l (more_exprs (expr room) rest)) front e

  pub exprs_fails : (front : List Expr) (ts : List Kind) (f : Fault) (new : List Kind) → is_at y.Comma ts ≡ true → Fails (expr room Nothing 0 (drop 1 ts)) f new → Fails (with_front (map plain_expr front) (more_exprs (expr room) ts)) f new
  exprs_fails front = behind_fails y.Comma (expr room Nothing 0) (expr_keeps room Nothing 0) (map plain_expr front)

  pub exprs_done : (front : List Expr) (ts : List Kind) → is_at y.Comma ts ≡ false → with_front (map plain_expr front) (more_exprs (expr room) ts) ≡ Ok (map plain_expr front, ts)
  exprs_done front = behind_done y.Comma (expr room Nothing 0) (expr_keeps room Nothing 0) (map plain_expr front)

  -- ---- sizes in brackets

  pub sizes_more : (front : List Expr) (ts : List Kind) (e : Expr) (mid : List Kind) (u : Unit {0}) (rest : List Kind) → is_at y.OpenBracket ts ≡ true → is_at y.CloseBracket (drop 1 ts) ≡ false
      → expr room Nothing 0 (drop 1 ts) ≡ Ok (plain_expr e, mid) → expect y.CloseBracket mid ≡ Ok (u, rest)
      → with_sizes (map plain_expr front) (spec.sizes room (expr room) (list room) ts) ≡ with_sizes (map plain_expr (front ++ e ∷ [])) (spec.sizes room (expr room) (list room) rest)
  sizes_more front ts e mid u rest h g r q =
      listing.sizes_more room (expr room) (list room) (expr_keeps room) (init_keeps room) (map plain_expr front) ts (plain_expr e) mid u rest h g r q
      ∙ with_one (λ l. with_sizes l (spec.sizes room (expr room) (list room) rest)) front e

  pub sizes_fails : (front : List Expr) (ts : List Kind) (f : Fault) (new : List Kind) → is_at y.OpenBracket ts ≡ true → is_at y.CloseBracket (drop 1 ts) ≡ false → Fails (expr room Nothing 0 (drop 1 ts)) f new
      → Fails (with_sizes (map plain_expr front) (spec.sizes room (expr room) (list room) ts)) f new
  sizes_fails front = listing.sizes_fails room (expr room) (list room) (expr_keeps room) (init_keeps room) (map plain_expr front)

  pub sizes_unclosed : (front : List Expr) (ts : List Kind) (e : Expr) (mid : List Kind) (f : Fault) (new : List Kind) → is_at y.OpenBracket ts ≡ true → is_at y.CloseBracket (drop 1 ts) ≡ false
      → expr room Nothing 0 (drop 1 ts) ≡ Ok (plain_expr e, mid) → Fails (expect y.CloseBracket mid) f new → Fails (with_sizes (map plain_expr front) (spec.sizes room (expr room) (list room) ts)) f new
  sizes_unclosed front ts e = listing.sizes_unclosed room (expr room) (list room) (expr_keeps room) (init_keeps room) (map plain_expr front) ts (plain_expr e)

  pub sizes_last : (front : List Expr) (ts : List Kind) (n : ℕ) (rest : List Kind) → is_at y.OpenBracket ts ≡ true → is_at y.CloseBracket (drop 1 ts) ≡ true → dims (drop 1 (drop 1 ts)) ≡ Ok (n, rest)
      → with_sizes (map plain_expr front) (spec.sizes room (expr room) (list room) ts) ≡ Ok ((map plain_expr front, suc n), rest)
  sizes_last front = listing.sizes_last room (expr room) (list room) (expr_keeps room) (init_keeps room) (map plain_expr front)

  pub sizes_last_fails : (front : List Expr) (ts : List Kind) (f : Fault) (new : List Kind) → is_at y.OpenBracket ts ≡ true → is_at y.CloseBracket (drop 1 ts) ≡ true → Fails (dims (drop 1 (drop 1 ts))) f new
      → Fails (with_sizes (map plain_expr front) (spec.sizes room (expr room) (list room) ts)) f new
  sizes_last_fails front = listing.sizes_last_fails room (expr room) (list room) (expr_keeps room) (init_keeps room) (map plain_expr front)

  pub sizes_done : (front : List Expr) (ts : List Kind) → is_at y.OpenBracket ts ≡ false → with_sizes (map plain_expr front) (spec.sizes room (expr room) (list room) ts) ≡ Ok ((map plain_expr front, 0), ts)
  sizes_done front = listing.sizes_done room (expr room) (list room) (expr_keeps room) (init_keeps room) (map plain_expr front)

  -- ---- initializers with commas between them

  pub items_more : (front : List Init) (ts : List Kind) (i : Init) (rest : List Kind) → is_at y.Comma ts ≡ true → starts_init (first (drop 1 ts)) ≡ true → init room (drop 1 ts) ≡ Ok (plain_init i, rest)
      → with_items (map plain_init front) (spec.after_item room (expr room) (list room) ts) ≡ with_items (map plain_init (front ++ i ∷ [])) (spec.after_item room (expr room) (list room) rest)
  items_more front ts i rest h g r =
      listing.items_more room (expr room) (list room) (expr_keeps room) (init_keeps room) (map plain_init front) ts (plain_init i) rest h g r
      ∙ with_one_item (λ l. with_items l (spec.after_item room (expr room) (list room) rest)) front i

  pub items_fails : (front : List Init) (ts : List Kind) (f : Fault) (new : List Kind) → is_at y.Comma ts ≡ true → starts_init (first (drop 1 ts)) ≡ true → Fails (init room (drop 1 ts)) f new
      → Fails (with_items (map plain_init front) (spec.after_item room (expr room) (list room) ts)) f new
  items_fails front = listing.items_fails room (expr room) (list room) (expr_keeps room) (init_keeps room) (map plain_init front)

  pub items_open : (front : List Init) (ts : List Kind) → is_at y.Comma ts ≡ true → starts_init (first (drop 1 ts)) ≡ false
      → with_items (map plain_init front) (spec.after_item room (expr room) (list room) ts) ≡ Ok ((map plain_init front, true), drop 1 ts)
  items_open front = listing.items_open room (expr room) (list room) (expr_keeps room) (init_keeps room) (map plain_init front)

  pub items_done : (front : List Init) (ts : List Kind) → is_at y.Comma ts ≡ false → with_items (map plain_init front) (spec.after_item room (expr room) (list room) ts) ≡ Ok ((map plain_init front, false), ts)
  items_done front = listing.items_done room (expr room) (list room) (expr_keeps room) (init_keeps room) (map plain_init front)
