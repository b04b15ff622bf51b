use Rattle.std.proofs.Common.{◌≡◌, ◌++◌, drop, filter}
use Rattle.jr_members.specs.Named.{carries}
use Rattle.jr_members.specs.Sources.{ArePlaced}
use Rattle.jr_members.proofs.named.carried.Given as goal

abbrev pub invariant-loop-at : goal.invariant-loop-at
invariant-loop-at l = ArePlaced l.under.rows.now l.under.places.now → l.found.items ++ filter (carries l.under.rows.now l.way) (drop l.at-index l.all) ≡ filter (carries l.under.rows.now l.way) l.all
