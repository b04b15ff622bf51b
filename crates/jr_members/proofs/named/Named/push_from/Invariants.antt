use Rattle.std.proofs.Common.{drop}
use Rattle.jr_defs.specs.Referents.{Table}
use Rattle.jr_members.specs.declared.declared.MemberKind.{MemberKind}
use Rattle.jr_members.specs.Sources.{AreSources}
use Rattle.jr_members.specs.Gathered.{CanGather, IsGatheringIn}
use Rattle.jr_members.proofs.named.Named.push_from.Given as goal

abbrev pub invariant-loop-from : goal.invariant-loop-from
invariant-loop-from l = (t : Table) (kind : MemberKind) → AreSources t kind l.sources → CanGather l.sources.under.rows.now t l.sources.supers.now kind l.self l.over
    → IsGatheringIn l.sources.under.rows.now t kind l.over l.name l.own l.fn.stamps l.fn.all.items l.direct
    → IsGatheringIn l.sources.under.rows.now t kind l.over l.name l.own l.stamps l.all.items (drop l.from-index l.direct)
