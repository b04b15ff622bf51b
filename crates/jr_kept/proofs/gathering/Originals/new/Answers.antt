use Rattle.jr_kept.proofs.Uses.{no_originals}
use Rattle.jr_kept.proofs.gathering.Originals.new.Goals as goal

pub returns : goal.returns
returns c = no_originals (record { met = c.in_ok-met.met; all = c.new-2.result }) c.args.bound c.in_ok-met.ensures c.new-2.ensures.items
