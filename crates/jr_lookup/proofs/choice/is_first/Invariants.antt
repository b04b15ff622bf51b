use Rattle.std.proofs.Common.{◌≡◌, ◌||◌, drop, nat_eq}
use Rattle.std.specs.List.{list_all}
use Rattle.jr_defs.specs.Referents.{Table}
use Rattle.jr_plain.specs.Overloads.{is_earlier}
use Rattle.jr_members.specs.Worlds.{IsWorld}
use Rattle.jr_lookup.proofs.choice.is_first.Given as goal

abbrev pub invariant-loop-other : goal.invariant-loop-other
invariant-loop-other l = (t : Table) → IsWorld t l.world → list_all (λ k. nat_eq l.method k || is_earlier l.world.under.rows.now t l.over l.method k) (drop l.other-index l.methods)
    ≡ list_all (λ k. nat_eq l.method k || is_earlier l.world.under.rows.now t l.over l.method k) l.methods
