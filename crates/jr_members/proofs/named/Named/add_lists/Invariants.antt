use Rattle.std.proofs.Common.{drop}
use Rattle.jr_defs.specs.Referents.{Table}
use Rattle.jr_plain.specs.Search.{Lists}
use Rattle.jr_members.specs.declared.declared.MemberKind.{MemberKind}
use Rattle.jr_members.specs.Sources.{AreSources, links_of}
use Rattle.jr_members.specs.Gathered.{IsWantedAs, CanAddTo, IsAddingLists}
use Rattle.jr_members.proofs.named.Named.add_lists.Given as goal

abbrev pub invariant-loop-at : goal.invariant-loop-at
invariant-loop-at l = (t : Table) (kind : MemberKind) → AreSources t kind l.sources → CanAddTo l.sources.under.rows.now t l.sources.supers.now kind l.fn.self l.fn.stamps l.over
    → Lists l.rows (IsWantedAs l.sources.under.rows.now t (links_of l.sources.supers.now) kind l.over)
    → IsAddingLists l.sources.under.rows.now t l.sources.supers.now kind l.over (drop l.at-index l.rows) l.fn.self l.self l.stamps
