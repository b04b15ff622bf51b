use Rattle.std.proofs.Common.{arith}
use Rattle.jr_defs.specs.Referents.{entries}
use Rattle.jr_supers.proofs.Superclassed.{superclass_more}
use Rattle.jr_supers.proofs.supers.superclasses_under.Goals as goal

pub loop-at-preserved : goal.loop-at-preserved
loop-at-preserved c = superclass_more c.args.rows.now (entries c.args.table.now) c.args.object c.loop-at.at _ _ _ c.loop-at.invariant (c.super_at-entry.ensures (omega arith)) c.put_superclass.ensures
