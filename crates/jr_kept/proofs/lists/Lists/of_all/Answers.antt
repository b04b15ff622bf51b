use Rattle.std.proofs.Common.{sym, arith, subst}
use Rattle.std.specs.List.{Contains}
use Rattle.std.proofs.lemmas.Result.{IfOk-weaker}
use Rattle.jr_kept.specs.Listed.{under, lists_in}
use Rattle.jr_kept.proofs.lists.Lists.of_all.Goals as goal

pub returns-clause-every : goal.returns-clause-every
returns-clause-every c = IfOk-weaker c.of.result _ _ (λ lists is k j pair. let le = c.least_first-first.ensures (k, j) pair in let lt = c.first_bound-bound.ensures (k, j) pair in
    subst (λ first. Contains (under (lists_in lists) first k) j) (sym is.begins) (is.listed.every k j pair le (omega (arith, le, lt)))) c.of.ensures

pub returns-clause-only : goal.returns-clause-only
returns-clause-only c = IfOk-weaker c.of.result _ _ (λ lists is k j h. is.listed.only k j (subst (λ first. Contains (under (lists_in lists) first k) j) is.begins h)) c.of.ensures
