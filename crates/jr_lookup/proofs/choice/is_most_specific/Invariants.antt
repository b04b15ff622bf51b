use Rattle.std.proofs.Common.{◌≡◌, true, drop}
use Rattle.std.specs.List.{list_all}
use Rattle.jr_tree.specs.Rows.{role_at}
use Rattle.jr_defs.specs.Referents.{Table}
use Rattle.jr_plain.specs.Overloads.{is_more_specific}
use Rattle.jr_supers.specs.Tabled.{is_callable}
use Rattle.jr_lookup.specs.Choices.{AreCandidates}
use Rattle.jr_lookup.proofs.choice.is_most_specific.Given as goal

abbrev pub invariant-loop-other : goal.invariant-loop-other
invariant-loop-other l = (t : Table) → AreCandidates t l.world l.methods → is_callable (role_at l.world.under.rows.now l.method) ≡ true
    → list_all (is_more_specific l.world.under.rows.now t l.method) (drop l.other-index l.methods) ≡ list_all (is_more_specific l.world.under.rows.now t l.method) l.methods
