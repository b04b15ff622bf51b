use Rattle.std.proofs.Common.{rules, arith, ◌≡◌, suc, max, Some}
use Rattle.jr_tree.specs.declared.tree.Expr.{the_lemmas}
use Rattle.jr_tree.specs.declared.tree.Expr.TheVariants.{NewArray}
use Rattle.jr_tree.specs.Mirror.Exprs as x
use Rattle.jr_tree.specs.Mirror.Exprs.{plain_expr, plain_exprs, plain_list}
use Rattle.jr_tree.specs.Depth.{expr_depth, exprs_depth, list_depth}
use Rattle.jr_parse_parts.proofs.measured.Measured.listed_array.Goals as goal

pub invariant_of-result : goal.invariant_of-result
invariant_of-result c =
    let dims : c.args.dims.height ≡ exprs_depth (plain_exprs c.args.dims.args) = c.args.dims.exact in
    let list : c.args.list.height ≡ list_depth (plain_list c.args.list.list) = c.args.list.exact in
    let tree : plain_expr (NewArray c.args.base c.args.dims.args c.args.more (Some c.args.list.list)) ≡ x.NewArray c.args.base (plain_exprs c.args.dims.args) c.args.more (x.a_list (plain_list c.args.list.list)) =
    first_of (search (rules, the_lemmas), grind (arith, the_lemmas)) in
    let most : c.max.result ≡ max c.args.dims.height c.args.list.height = search rules in
    let deep : suc (max c.args.dims.height c.args.list.height) ≡ expr_depth (plain_expr (NewArray c.args.base c.args.dims.args c.args.more (Some c.args.list.list))) = rw tree (omega arith) in
    record { exact = omega arith; some = omega arith }
