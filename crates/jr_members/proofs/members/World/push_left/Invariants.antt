use Rattle.std.proofs.Common.{drop}
use Rattle.jr_defs.specs.Referents.{Table}
use Rattle.jr_members.specs.declared.declared.MemberKind.TheVariants as kind
use Rattle.jr_members.specs.Each.{StandOnce}
use Rattle.jr_members.specs.Sources.{AreOfKind}
use Rattle.jr_members.specs.Worlds.{IsWorld, IsAddingLeft}
use Rattle.jr_members.proofs.members.World.push_left.Given as goal

abbrev pub invariant-loop-at : goal.invariant-loop-at
invariant-loop-at l = (t : Table) → IsWorld t l.self → AreOfKind l.self.under.rows.now kind.Method l.own → StandOnce l.fn.found.items
    → IsAddingLeft l.self.under.rows.now t l.above l.own l.fn.found.items l.found.items (drop l.at-index l.own)
