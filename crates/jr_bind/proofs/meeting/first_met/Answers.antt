use Rattle.std.proofs.Common.{subst, sym}
use Rattle.jr_defs.specs.Headers.{IsLookedForIn}
use Rattle.jr_plain.specs.Search.{Lists}
use Rattle.jr_defs.specs.Referents.{entries}
use Rattle.jr_bind.specs.Ranked.{rank_in}
use Rattle.jr_bind.proofs.Opening.{met_at}
use Rattle.jr_bind.proofs.meeting.first_met.Goals as goal

pub returns : goal.returns
returns c = λ k whole header. met_at c.args.ranked.now.sight.world.under.rows.now whole.formed (entries c.args.ranked.now.sight.world.under.table.now) (rank_in c.args.ranked.now.ranks.now) c.args.low c.args.name _ _ c.sought_at.result _ _ _ _ whole.few k header
    c.end_at.ensures c.saturating_sub-at.ensures c.sought_at.ensures (c.is_simple.ensures.0 c.in_ok-claim.ensures) (λ lt. subst (λ xs. Lists xs (IsLookedForIn c.args.ranked.now.sight.world.under.rows.now (entries c.args.ranked.now.sight.world.under.table.now) c.saturating_sub-at.result)) (sym c.deref.ensures.value) (c.in_ok-imports.ensures whole lt)) (λ rows. c.in_ok-by_import.ensures whole rows) (λ lt seeks. c.in_ok-own.ensures whole lt seeks) c.first_of.ensures
