use Rattle.std.proofs.Common.{◌∙◌, ap, arith}
use Rattle.jr_locks.specs.Copying.{with_number}
use Rattle.jr_locks.proofs.Numbers.{numbered_more}
use Rattle.jr_locks.proofs.agreeing.number_rows.Goals as goal

pub loop-naming-preserved : goal.loop-naming-preserved
loop-naming-preserved c = record {
  numbered = numbered_more c.args.namings.now c.args.old c.loop-naming.numbers c.set_numbers.new.numbers c.loop-naming.naming-index c.loop-naming.number c.naming-item.result
      c.loop-naming-test.true c.naming-item.is c.loop-naming.invariant.number
      (c.set_numbers.ensures ∙ ap (λ rows. with_number c.loop-naming.numbers rows c.loop-naming.number) c.deref.ensures.value) c.loop-naming.invariant.numbered;
  number = let e = c.saturating_add-number.ensures in let f = c.loop-naming.invariant.numbered.few in let l = c.loop-naming-test.true in let r = c.loop-naming.invariant.number in omega (arith, e, f, l, r);
}
