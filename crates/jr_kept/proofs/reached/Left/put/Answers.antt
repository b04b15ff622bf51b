use Rattle.std.proofs.Common.{◌≡◌, ◌++◌, ◌∷◌, [], ◌+◌, ap, sym, ◌∙◌, subst, arith, length, Some}
use Rattle.jr_kept.specs.Pruned.{AreNumbered}
use Rattle.jr_kept.proofs.Coming.{numbered_more}
use Rattle.jr_kept.proofs.reached.Left.put.Goals as goal

pub returns : goal.returns
returns c = λ points met n at kept h. let left = c.args.self.now.points.items in let numbers = c.args.self.now.numbers.items in
    let count : c.in_ok-number.number ≡ length left = c.in_ok-number.ensures ∙ omega (arith, c.len.ensures, c.args.self.now.points.ok.0) in
    subst (λ xs. AreNumbered points met (n + 1) xs c.push-2.new.self.items) (sym c.in_ok-push.ensures.items)
    (subst (λ ks. AreNumbered points met (n + 1) (left ++ c.args.point ∷ []) ks) (sym (c.in_ok-push-2.ensures.items ∙ ap (λ z. numbers ++ Some z ∷ []) count)) (numbered_more points met n left numbers h c.args.point at kept))
