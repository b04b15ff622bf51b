use Rattle.std.proofs.Common.{rules, arith, ◌≡◌, [], ◌∷◌, ◌++◌, max}
use Rattle.jr_tree.specs.Mirror.Exprs.{plain_init, plain_inits}
use Rattle.jr_tree.specs.Depth.{init_depth, inits_depth}
use Rattle.jr_parse_parts.proofs.Depths.{inits_depth_with}
use Rattle.jr_parse_parts.proofs.listed.ListItems.with.Goals as goal

pub invariant_of-result : goal.invariant_of-result
invariant_of-result c =
    let pushed : c.push.new.self ≡ c.args.self.items ++ c.args.item.init ∷ [] = search rules in
    let front : c.args.self.height ≡ inits_depth (plain_inits c.args.self.items) = c.args.self.exact in
    let last : c.args.item.height ≡ init_depth (plain_init c.args.item.init) = c.args.item.exact in
    let most : c.max.result ≡ max c.args.self.height c.args.item.height = search rules in
    record { exact = rw (pushed, inits_depth_with c.args.self.items c.args.item.init) (omega arith) }
