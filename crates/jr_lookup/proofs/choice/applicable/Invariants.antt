use Rattle.std.proofs.Common.{◌≡◌, ◌++◌, drop, filter}
use Rattle.jr_defs.specs.Referents.{Table}
use Rattle.jr_plain.specs.Overloads.{is_applicable}
use Rattle.jr_lookup.specs.Choices.{AreCandidates}
use Rattle.jr_lookup.specs.Within.{IsWithin}
use Rattle.jr_lookup.proofs.choice.applicable.Given as goal

abbrev pub invariant-loop-method : goal.invariant-loop-method
invariant-loop-method l = IsWithin l.methods l.all.items × ((t : Table) → AreCandidates t l.world l.methods
    → l.all.items ++ filter (is_applicable l.world.under.rows.now t l.place l.receiver l.arguments) (drop l.method-index l.methods) ≡ filter (is_applicable l.world.under.rows.now t l.place l.receiver l.arguments) l.methods)
