use Rattle.std.proofs.Common.{◌≡◌, ◌++◌, drop, filter, nat_eq, ◌||◌}
use Rattle.std.specs.List.{list_all}
use Rattle.jr_defs.specs.Referents.{Table}
use Rattle.jr_plain.specs.Overloads.{is_earlier}
use Rattle.jr_members.specs.Worlds.{IsWorld}
use Rattle.jr_lookup.specs.Within.{IsWithin}
use Rattle.jr_lookup.proofs.choice.firsts.Given as goal

abbrev pub invariant-loop-method : goal.invariant-loop-method
invariant-loop-method l = IsWithin l.methods l.all.items × ((t : Table) → IsWorld t l.world → l.all.items ++ filter (λ m. list_all (λ k. nat_eq m k || is_earlier l.world.under.rows.now t l.over m k) l.methods) (drop l.method-index l.methods) ≡ filter (λ m. list_all (λ k. nat_eq m k || is_earlier l.world.under.rows.now t l.over m k) l.methods) l.methods)
