use Rattle.std.proofs.Common.{◌-◌, arith}
use Rattle.jr_shapes.proofs.Suffixes.{suffix_top}
use Rattle.jr_shapes.proofs.names.suffix_rows.Goals as goal

pub returns-in-None : goal.returns-in-None
returns-in-None c = suffix_top (c.loop-left.left - 1) c.push.new.self.items c.push_last.new.all.items c.loop-left.invariant c.in-None.ensures (omega arith) c.in_ok-push.ensures.items c.in_ok-push_last-in-None.ensures
