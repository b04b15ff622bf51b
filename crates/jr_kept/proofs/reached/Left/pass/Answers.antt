use Rattle.std.proofs.Common.{◌+◌, sym, subst}
use Rattle.jr_kept.specs.Pruned.{AreNumbered}
use Rattle.jr_kept.proofs.Coming.{numbered_passed}
use Rattle.jr_kept.proofs.reached.Left.pass.Goals as goal

pub returns : goal.returns
returns c = λ points met n out h. let left = c.args.self.now.points.items in
    subst (λ ks. AreNumbered points met (n + 1) left ks) (sym c.in_ok-push.ensures.items) (numbered_passed points met n left c.args.self.now.numbers.items h out)
