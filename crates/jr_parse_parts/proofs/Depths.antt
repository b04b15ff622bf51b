-- How deep a list is with one more item.
use Rattle.std.proofs.Common.{◌≡◌, ℕ, max, List, [], ◌∷◌, ◌++◌, ap, ◌∙◌, arith}
use Rattle.jr_tree.specs.declared.tree.Expr.{Expr}
use Rattle.jr_tree.specs.declared.tree.Init.{Init}
use Rattle.jr_tree.specs.Mirror.Exprs.{plain_expr, plain_exprs, plain_init, plain_inits}
use Rattle.jr_tree.specs.Depth.{expr_depth, exprs_depth, init_depth, inits_depth}

max_nothing : (n : ℕ) → max n 0 ≡ max 0 n
max_nothing n = omega arith

max_regroup : (a b c : ℕ) → max a (max b c) ≡ max (max a b) c
max_regroup a b c = omega arith

pub exprs_depth_with : (front : List Expr) (e : Expr) → exprs_depth (plain_exprs (front ++ e ∷ [])) ≡ max (exprs_depth (plain_exprs front)) (expr_depth (plain_expr e))
exprs_depth_with [] e = max_nothing (expr_depth (plain_expr e))
exprs_depth_with (f ∷ front) e = ap (max (expr_depth (plain_expr f))) (exprs_depth_with front e) ∙ max_regroup (expr_depth (plain_expr f)) (exprs_depth (plain_exprs front)) (expr_depth (plain_expr e))

pub inits_depth_with : (front : List Init) (i : Init) → inits_depth (plain_inits (front ++ i ∷ [])) ≡ max (inits_depth (plain_inits front)) (init_depth (plain_init i))
inits_depth_with [] i = max_nothing (init_depth (plain_init i))
inits_depth_with (j ∷ front) i = ap (max (init_depth (plain_init j))) (inits_depth_with front i) ∙ max_regroup (init_depth (plain_init j)) (inits_depth (plain_inits front)) (init_depth (plain_init i))
