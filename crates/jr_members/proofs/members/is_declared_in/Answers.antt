use Rattle.std.proofs.Common.{sym}
use Rattle.jr_members.proofs.Objects.{declarer_some, declarer_none}
use Rattle.jr_members.proofs.members.is_declared_in.Goals as goal

pub returns-in-Some : goal.returns-in-Some
returns-in-Some c = declarer_some c.args.rows.now c.args.over c.args.at c.in-Some.found (sym c.in-Some.ensures)

pub returns-in-None : goal.returns-in-None
returns-in-None c = declarer_none c.args.rows.now c.args.over c.args.at (sym c.in-None.ensures)
