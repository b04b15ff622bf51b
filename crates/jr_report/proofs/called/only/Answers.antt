use Rattle.jr_report.specs.Listed.{rows_in}
use Rattle.jr_report.proofs.Gathering.{alone}
use Rattle.jr_report.proofs.called.only.Goals as goal

pub returns : goal.returns
returns c = λ method. alone (rows_in c.args.world.now) c.args.method _ _ _ c.in_ok-called.ensures (c.add.ensures _) method
