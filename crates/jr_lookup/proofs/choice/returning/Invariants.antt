use Rattle.std.proofs.Common.{◌≡◌, ◌++◌, drop, filter}
use Rattle.std.specs.List.{list_all}
use Rattle.jr_defs.specs.Referents.{Table}
use Rattle.jr_plain.specs.Overloads.{is_result_fit}
use Rattle.jr_lookup.specs.Choices.{AreCandidates, AreResults}
use Rattle.jr_lookup.specs.Within.{IsWithin}
use Rattle.jr_lookup.proofs.choice.returning.Given as goal

abbrev pub invariant-loop-method : goal.invariant-loop-method
invariant-loop-method l = IsWithin l.methods l.all.items × ((t : Table) → AreCandidates t l.world l.methods → AreResults t l.world → l.all.items ++ filter (λ m. list_all (λ k. is_result_fit l.world.under.rows.now t m k) l.methods) (drop l.method-index l.methods) ≡ filter (λ m. list_all (λ k. is_result_fit l.world.under.rows.now t m k) l.methods) l.methods)
