use Rattle.std.proofs.Common.{◌+◌, sym, subst, arith}
use Rattle.jr_defs.specs.Referents.{entries}
use Rattle.jr_locks.specs.Copies.{AreMade}
use Rattle.jr_locks.proofs.Locked.{made_next}
use Rattle.jr_locks.proofs.moving.table_of.Goals as goal

pub loop-at-preserved : goal.loop-at-preserved
loop-at-preserved c = record {
  made = subst (λ xs. AreMade c.args.origin.now c.args.copies.now (entries c.args.table.now) c.args.raised xs (c.loop-at.at + 1)) (sym c.in_ok-push.ensures.items)
      (made_next c.args.origin.now c.args.copies.now (entries c.args.table.now) c.args.raised c.loop-at.all.items c.lock_of.result c.loop-at.at c.loop-at.row c.origin_at.result
      c.requires c.loop-at.invariant.row c.origin_at.ensures c.lock_of.ensures c.loop-at.invariant.made);
  row = let e = c.saturating_add-row.ensures in let f = c.requires.fits in let l = c.loop-at-test.true in let r = c.loop-at.invariant.row in omega (arith, e, f, l, r);
}
