use Rattle.std.proofs.Common.{◌≡◌, sym, ◌∙◌, subst, inl, inr, ⊎_elim, true}
use Rattle.std.proofs.lemmas.Bool.{false≢true}
use Rattle.jr_defs.specs.Referents.{entries}
use Rattle.jr_bind.specs.Ranked.{rank_in}
use Rattle.jr_plain.proofs.Declared.{type_tells}
use Rattle.jr_bind.proofs.RowByRow.{goes_nowhere, type_goes}
use Rattle.jr_bind.proofs.edges.confirm_type.Goals as goal

pub returns-then-not-is_type : goal.returns-then-not-is_type
returns-then-not-is_type c = (goes_nowhere c.args.ranked.now.sight.world.under.rows.now (entries c.args.ranked.now.sight.world.under.table.now) (rank_in c.args.ranked.now.ranks.now) c.args.edges.now, λ type. absurd (false≢true (sym c.if-not-is_type.true ∙ c.is_type.ensures ∙ (type_tells c.args.ranked.now.sight.world.under.rows.now c.args.at).1 type)))

pub returns : goal.returns
returns c = type_goes c.args.ranked.now.sight.world.under.rows.now (entries c.args.ranked.now.sight.world.under.table.now) (rank_in c.args.ranked.now.ranks.now) c.args.at c.outer_of-over.result c.outer_of-over.ensures.some c.outer_of-over.ensures.none
    (⊎_elim (λ none. inl none) (λ zero. inr (sym c.rank_of.ensures ∙ zero)) (c.is_none_or_open.ensures c.in_ok-claim.ensures)) _ _ c.in_ok-add_edge.ensures
    ((type_tells c.args.ranked.now.sight.world.under.rows.now c.args.at).0 (sym c.is_type.ensures ∙ c.if-not-is_type.false))
