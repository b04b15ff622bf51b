-- A list is empty where its length is 0, and what it is as plain data is empty with it.
use Rattle.std.proofs.Common.{◌≡◌, refl, List, [], ◌∷◌, map, length, eqb, not, ap}
use Rattle.std.proofs.Math.Dec.{eqb-suc-zero}
use Rattle.jr_tree.specs.Shape.{is_empty, has_expr, has_stmt, has_catch}
use Rattle.jr_tree.specs.declared.tree.Expr as declared_expr
use Rattle.jr_tree.specs.declared.tree.Stmt as declared_stmt
use Rattle.jr_tree.specs.declared.tree.Catch as declared_catch
use Rattle.jr_tree.specs.Mirror.Exprs as m
use Rattle.jr_tree.specs.Mirror.Stmts as n

pub length_empty : {A : Type 0} (all : List A) → eqb (length all) 0 ≡ is_empty all
length_empty [] = refl
length_empty (a ∷ all) = eqb-suc-zero (length all)

pub length_empty_map : {A B : Type 0} (f : A → B) (all : List A) → eqb (length all) 0 ≡ is_empty (map f all)
length_empty_map f [] = refl
length_empty_map f (a ∷ all) = eqb-suc-zero (length all)

pub has_expr_plain : (all : List declared_expr.Expr) → not (eqb (length all) 0) ≡ has_expr (m.plain_exprs all)
has_expr_plain [] = refl
has_expr_plain (a ∷ all) = ap not (eqb-suc-zero (length all))

pub has_stmt_plain : (all : List declared_stmt.Stmt) → not (eqb (length all) 0) ≡ has_stmt (n.plain_stmts all)
has_stmt_plain [] = refl
has_stmt_plain (a ∷ all) = ap not (eqb-suc-zero (length all))

pub has_catch_plain : (all : List declared_catch.Catch) → not (eqb (length all) 0) ≡ has_catch (n.plain_catches all)
has_catch_plain [] = refl
has_catch_plain (a ∷ all) = ap not (eqb-suc-zero (length all))
