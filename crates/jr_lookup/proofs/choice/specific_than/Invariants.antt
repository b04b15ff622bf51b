use Rattle.std.proofs.Common.{◌≡◌, ◌++◌, true, drop, filter}
use Rattle.jr_tree.specs.Rows.{role_at}
use Rattle.jr_defs.specs.Referents.{Table}
use Rattle.jr_plain.specs.Overloads.{is_more_specific}
use Rattle.jr_supers.specs.Tabled.{is_callable}
use Rattle.jr_lookup.specs.Choices.{AreCandidates}
use Rattle.jr_lookup.specs.Within.{IsWithin}
use Rattle.jr_lookup.proofs.choice.specific_than.Given as goal

abbrev pub invariant-loop-method : goal.invariant-loop-method
invariant-loop-method l = IsWithin l.methods l.all.items × ((t : Table) → AreCandidates t l.world l.methods → is_callable (role_at l.world.under.rows.now l.best) ≡ true → l.all.items ++ filter (λ m. is_more_specific l.world.under.rows.now t m l.best) (drop l.method-index l.methods) ≡ filter (λ m. is_more_specific l.world.under.rows.now t m l.best) l.methods)
