use Rattle.std.proofs.Common.{◌≡◌, ◌∙◌, refl, ap, length, subst, ◌∷◌, [], ◌++◌}
use Rattle.jr_flow.specs.Linked.{firsts_in, items_in, HaveBegun}
use Rattle.jr_flow.proofs.Linking.{pair_filled}
use Rattle.jr_flow.proofs.links.Links.push.Goals as goal

pub returns : goal.returns
returns c = λ all n rises at_n h. pair_filled all n c.args.pair c.args.self.now (record { firsts = c.begin.new.self.firsts; items = c.push.new.self }) rises at_n h c.in_ok-begin.ensures.begun c.in_ok-begin.ensures.longer (c.in_ok-push.ensures.items ∙ ap (λ xs. xs ++ c.args.pair.1 ∷ []) c.in_ok-begin.ensures.items)
