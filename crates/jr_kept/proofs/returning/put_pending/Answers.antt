use Rattle.jr_kept.specs.Waiting.{IsFree}
use Rattle.jr_kept.proofs.Moved.{row_told, no_row_told}
use Rattle.jr_kept.proofs.returning.put_pending.Goals as goal

pub returns-in-Some : goal.returns-in-Some
returns-in-Some c = row_told c.args.row c.in-Some.row c.args.lost.now c.put_unless.new.lost c.is_free.result (IsFree c.args.rows.now c.args.body) c.in-Some.is c.is_free.ensures c.put_unless.ensures

pub returns-in-None : goal.returns-in-None
returns-in-None c = no_row_told c.args.row c.args.lost.now (IsFree c.args.rows.now c.args.body) c.in-None.is
