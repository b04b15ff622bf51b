use Rattle.std.proofs.Common.{◌≡◌, true, drop}
use Rattle.jr_tree.specs.Rows.{role_at}
use Rattle.jr_defs.specs.Referents.{Table}
use Rattle.jr_plain.specs.Overloads.{is_more_specific}
use Rattle.jr_supers.specs.Tabled.{is_callable}
use Rattle.jr_lookup.specs.Choices.{AreCandidates, best}
use Rattle.jr_lookup.proofs.choice.best.Given as goal

abbrev pub invariant-loop-method : goal.invariant-loop-method
invariant-loop-method l = (t : Table) → AreCandidates t l.world l.methods → is_callable (role_at l.world.under.rows.now l.first) ≡ true
    → (is_callable (role_at l.world.under.rows.now l.best) ≡ true) × (best (is_more_specific l.world.under.rows.now t) l.best (drop l.method-index l.methods) ≡ best (is_more_specific l.world.under.rows.now t) l.first l.methods)
