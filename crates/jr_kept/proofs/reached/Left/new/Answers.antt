use Rattle.std.proofs.Common.{[], sym, subst}
use Rattle.jr_kept.specs.Pruned.{AreNumbered}
use Rattle.jr_kept.proofs.Coming.{numbered_none}
use Rattle.jr_kept.proofs.reached.Left.new.Goals as goal

pub returns : goal.returns
returns c = λ points met. subst (λ xs. AreNumbered points met 0 xs c.new-2.result.items) (sym c.new.ensures.items) (subst (λ ns. AreNumbered points met 0 [] ns) (sym c.new-2.ensures.items) (numbered_none points met))
