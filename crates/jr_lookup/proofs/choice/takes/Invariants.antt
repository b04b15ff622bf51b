use Rattle.std.proofs.Common.{◌≡◌, true, Some}
use Rattle.jr_tree.specs.Rows.{role_at}
use Rattle.jr_defs.specs.Referents.{Table}
use Rattle.jr_plain.specs.Types.{parameters}
use Rattle.jr_supers.specs.Tabled.{is_callable}
use Rattle.jr_members.specs.Worlds.{IsWorld}
use Rattle.jr_lookup.proofs.Fitting.{both_fit, rest_fit}
use Rattle.jr_lookup.proofs.choice.takes.Given as goal

abbrev pub invariant-loop-nth : goal.invariant-loop-nth
invariant-loop-nth l = (t : Table) → IsWorld t l.world → is_callable (role_at l.world.under.rows.now l.method) ≡ true
    → rest_fit l.world.under.rows.now t (Some l.arguments) (parameters l.world.under.rows.now t l.method) l.nth ≡ both_fit l.world.under.rows.now t (Some l.arguments) (parameters l.world.under.rows.now t l.method)
