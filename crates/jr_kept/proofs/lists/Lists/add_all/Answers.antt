use Rattle.std.proofs.Common.{sym, subst, arith, take}
use Rattle.std.proofs.lemmas.Grind.{take_at_read}
use Rattle.std.proofs.lemmas.List.{take_all}
use Rattle.jr_kept.specs.Listed.{IsListing}
use Rattle.jr_kept.proofs.lists.Lists.add_all.Goals as goal

pub loop-number-preserved : goal.loop-number-preserved
loop-number-preserved c = λ first count h. let lt = c.loop-number-test.true in
    subst (λ xs. IsListing c.add.new.self first count xs) (sym ((take_at_read c.args.pairs.now c.loop-number.number-index _ (omega (arith, lt))).1)) (c.in_ok-add.ensures first count (take c.loop-number.number-index c.args.pairs.now) (c.loop-number.invariant first count h))

pub returns : goal.returns
returns c = λ first count h. let past = c.loop-number-test.false in
    subst (λ xs. IsListing c.loop-number.self first count xs) (take_all c.loop-number.number-index c.args.pairs.now (omega (arith, past))) (c.loop-number.invariant first count h)
