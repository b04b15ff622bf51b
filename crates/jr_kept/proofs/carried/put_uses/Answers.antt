use Rattle.std.proofs.Common.{ℕ, ◌+◌, arith, length, subst, take}
use Rattle.std.specs.List.{Contains}
use Rattle.std.proofs.lemmas.Grind.{take_at_read}
use Rattle.std.proofs.lemmas.List.{take_all}
use Rattle.jr_kept.specs.Carried.{IsUsedAfter}
use Rattle.jr_kept.proofs.Each.{all_none, all_more}
use Rattle.jr_kept.proofs.Carrying.{grows_same, grows_both, used_still}
use Rattle.jr_kept.proofs.Leaving.{behind_same, behind_both}
use Rattle.jr_kept.proofs.carried.put_uses.Goals as goal

pub loop-local-init : goal.loop-local-init
loop-local-init c = let made = c.args.made.now in (grows_same made, all_none (λ d. IsUsedAfter made (length made.points.items) c.args.from d), behind_same made c.args.from)

pub loop-local-preserved : goal.loop-local-preserved
loop-local-preserved c = let old = c.args.made.now in let mid = c.loop-local.made in let new = c.put_use.new.made in let from = c.args.from in let count = length old.points.items in
    let all = c.args.locals.now in let i = c.loop-local.local-index in let lt = c.loop-local-test.true in let inv = c.loop-local.invariant in let one = c.in_ok-put_use.ensures.every in (
      grows_both old mid new inv.0 one.0,
      all_more (λ d. IsUsedAfter mid count from d) (λ d. IsUsedAfter new count from d) (take i all) (take (i + 1) all) _ ((take_at_read all i _ (omega (arith, lt))).1)
          (λ d u. used_still mid new count count from d one.0 (omega arith) u) (used_still new new (length mid.points.items) count from _ (grows_same new) inv.0.few one.1) inv.1,
      behind_both old mid new from inv.0 inv.2 c.in_ok-put_use.ensures.only,
    )

pub returns-clause-every : goal.returns-clause-every
returns-clause-every c = let past = c.loop-local-test.false in let inv = c.loop-local.invariant in
    (inv.0, subst (λ xs. (d : ℕ) → Contains xs d → IsUsedAfter c.loop-local.made (length c.args.made.now.points.items) c.args.from d) (take_all c.loop-local.local-index c.args.locals.now (omega (arith, past))) inv.1)

pub returns-clause-only : goal.returns-clause-only
returns-clause-only c = c.loop-local.invariant.2
