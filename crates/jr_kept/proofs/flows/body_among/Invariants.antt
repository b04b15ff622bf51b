use Rattle.std.proofs.Common.{◌<◌, ◌^◌, length}
use Rattle.jr_kept.specs.Courses.{AreBodies}
use Rattle.jr_kept.proofs.Rounding.{IsLastRound}
use Rattle.jr_kept.proofs.flows.body_among.Given as goal

abbrev pub invariant-loop-body : goal.invariant-loop-body
invariant-loop-body l = length l.rows < 2 ^ 32 → AreBodies l.rows l.bodies → IsLastRound l.rows l.row l.bodies l.body-index l.found
