use Rattle.std.proofs.Common.{◌+◌, ◌*◌}
use Rattle.jr_parse.proofs.declaration.+declaration.Given as goal

abbrev pub decreases-decl : goal.decreases-decl
decreases-decl l = 4 * l.room + 1

abbrev pub decreases-nested : goal.decreases-nested
decreases-nested l = 4 * l.room + 2

abbrev pub decreases-begun_member : goal.decreases-begun_member
decreases-begun_member l = 4 * l.room + 3

abbrev pub decreases-member : goal.decreases-member
decreases-member l = 4 * l.room
