use Rattle.std.proofs.Common.{sym}
use Rattle.jr_dispatch.proofs.Inheriting.{declarer_some, declarer_none}
use Rattle.jr_dispatch.proofs.dispatch.is_declared_in.Goals as goal

pub returns-in-Some : goal.returns-in-Some
returns-in-Some c = declarer_some c.args.rows.now c.args.at c.args.method c.in-Some.over (sym c.in-Some.ensures)

pub returns-in-None : goal.returns-in-None
returns-in-None c = declarer_none c.args.rows.now c.args.at c.args.method (sym c.in-None.ensures)
