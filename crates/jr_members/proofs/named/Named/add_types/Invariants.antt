use Rattle.std.proofs.Common.{◌≡◌, [], drop}
use Rattle.jr_defs.specs.Referents.{Table}
use Rattle.jr_members.specs.declared.declared.MemberKind.{MemberKind}
use Rattle.jr_members.specs.Sources.{AreSources}
use Rattle.jr_members.specs.Gathered.{CanAdd, IsAddingTypes}
use Rattle.jr_members.proofs.named.Named.add_types.Given as goal

abbrev pub invariant-loop-over : goal.invariant-loop-over
invariant-loop-over l = (t : Table) (kind : MemberKind) → AreSources t kind l.sources → CanAdd l.sources.under.rows.now t kind l.fn.self l.fn.stamps → l.fn.self.lists ≡ []
    → IsAddingTypes l.sources.under.rows.now t l.sources.supers.now kind (drop l.over-index l.order) l.self l.stamps
