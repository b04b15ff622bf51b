use Rattle.std.proofs.Common.{◌≡◌, ◌∙◌, refl, ap, ◌++◌, ◌∷◌, [], length, arith}
use Rattle.jr_flow.proofs.Grouping.{group_begun}
use Rattle.jr_flow.proofs.hops.Hops.begin.Goals as goal

pub returns : goal.returns
returns c = λ groups right. let at : c.in-Ok.first ≡ length c.args.self.now.all.items = omega (arith, c.in-Ok.ensures.1, c.len.ensures, c.args.self.now.all.ok.0) in group_begun c.args.self.now (record { firsts = c.push.new.self; all = c.args.self.now.all }) groups right refl (c.in_ok-push.ensures.items ∙ ap (λ k. c.args.self.now.firsts.items ++ k ∷ []) at)
