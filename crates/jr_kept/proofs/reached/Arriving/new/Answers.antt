use Rattle.std.proofs.Common.{◌++◌, ◌∷◌, [], sym, ◌∙◌, ap, subst}
use Rattle.jr_kept.specs.Pruned.{IsArriving}
use Rattle.jr_kept.proofs.Coming.{arriving_begun}
use Rattle.jr_kept.proofs.reached.Arriving.new.Goals as goal

pub returns : goal.returns
returns c = λ steps. subst (IsArriving c.args.count steps c.in_ok-met.met) (sym (c.in_ok-push.ensures.items ∙ ap (λ xs. xs ++ 0 ∷ []) c.new-waiting.ensures.items)) (arriving_begun c.args.count steps c.in_ok-met.met c.in_ok-met.ensures)
