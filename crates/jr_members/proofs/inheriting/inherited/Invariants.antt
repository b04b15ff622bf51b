use Rattle.std.proofs.Common.{◌≡◌, ◌++◌, drop, filter}
use Rattle.jr_defs.specs.Referents.{Table}
use Rattle.jr_members.specs.Sources.{AreSources, AreOfKind}
use Rattle.jr_members.specs.Gathered.{inherits}
use Rattle.jr_members.proofs.inheriting.inherited.Given as goal

abbrev pub invariant-loop-at : goal.invariant-loop-at
invariant-loop-at l = (t : Table) → AreSources t l.kind l.sources → AreOfKind l.sources.under.rows.now l.kind l.own → AreOfKind l.sources.under.rows.now l.kind l.found
    → l.some.items ++ filter (inherits l.sources.under.rows.now t l.kind l.own l.over l.from) (drop l.at-index l.found) ≡ filter (inherits l.sources.under.rows.now t l.kind l.own l.over l.from) l.found
