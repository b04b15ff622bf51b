use Rattle.std.proofs.Common.{rules, arith, ◌≡◌, [], ◌∷◌, ◌++◌, max}
use Rattle.jr_tree.specs.Mirror.Exprs.{plain_expr, plain_exprs}
use Rattle.jr_tree.specs.Depth.{expr_depth, exprs_depth}
use Rattle.jr_parse_parts.proofs.Depths.{exprs_depth_with}
use Rattle.jr_parse_parts.proofs.measured.Arguments.with.Goals as goal

pub invariant_of-result : goal.invariant_of-result
invariant_of-result c =
    let pushed : c.push.new.self ≡ c.args.self.args ++ c.args.arg.expr ∷ [] = search rules in
    let front : c.args.self.height ≡ exprs_depth (plain_exprs c.args.self.args) = c.args.self.exact in
    let last : c.args.arg.height ≡ expr_depth (plain_expr c.args.arg.expr) = c.args.arg.exact in
    let most : c.max.result ≡ max c.args.self.height c.args.arg.height = search rules in
    record { exact = rw (pushed, exprs_depth_with c.args.self.args c.args.arg.expr) (omega arith) }
