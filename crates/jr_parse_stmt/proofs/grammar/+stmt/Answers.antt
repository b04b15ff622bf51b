use Rattle.std.proofs.Common.{arith}
use Rattle.jr_parse_laws.specs.Parsers.{kinds}
use Rattle.jr_parse_stmt.proofs.Rooms.{stmt_fails, stmt_below}
use Rattle.jr_parse_stmt.proofs.grammar.+stmt.Goals as goal

pub returns-then-room-eq0 : goal.returns-then-room-eq0
returns-then-room-eq0 t c = stmt_fails c.args.room c.args.declares (kinds c.args.cursor.now) c.lowest.result (omega arith) c.lowest.ensures

pub returns : goal.returns
returns t c = rw (stmt_below c.args.room c.args.declares (kinds c.args.cursor.now) (omega arith)) c.stmt_of.ensures
