use Rattle.std.proofs.Common.{arith}
use Rattle.jr_parse_laws.specs.Parsers.{kinds}
use Rattle.jr_parse_stmt.proofs.Rooms.{ctor_lowest, ctor_below}
use Rattle.jr_parse_stmt.proofs.ctor.ctor_body.Goals as goal

pub returns-then-room-eq0 : goal.returns-then-room-eq0
returns-then-room-eq0 c = rw (ctor_lowest c.args.room (kinds c.args.cursor.now) (omega arith)) c.body.ensures

pub returns : goal.returns
returns c = rw (ctor_below c.args.room (kinds c.args.cursor.now) (omega arith)) c.ctor_block.ensures
