use Rattle.std.proofs.Common.{sym, ◌∙◌, subst}
use Rattle.jr_defs.specs.Referents.{entries}
use Rattle.jr_bind.specs.Ranked.{rank_in}
use Rattle.jr_defs.specs.Headers.{NamesHeader}
use Rattle.jr_bind.proofs.RowByRow.{goes_nowhere, header_of, no_header, name_goes}
use Rattle.jr_bind.proofs.edges.confirm_name.Goals as goal

pub returns-in_default : goal.returns-in_default
returns-in_default c = λ whole. (goes_nowhere c.args.ranked.now.sight.world.under.rows.now (entries c.args.ranked.now.sight.world.under.table.now) (rank_in c.args.ranked.now.ranks.now) c.args.edges.now, λ d header. absurd (no_header c.args.ranked.now.sight.world.under.rows.now c.args.at d (sym c.header_place.ensures ∙ c.in_default.is) header))

pub returns : goal.returns
returns c = λ whole. let header : NamesHeader c.args.ranked.now.sight.world.under.rows.now c.parent_at-low.result c.args.at = subst (λ k. NamesHeader c.args.ranked.now.sight.world.under.rows.now k c.args.at) (sym c.parent_at-low.ensures) (header_of c.args.ranked.now.sight.world.under.rows.now c.args.at c.in-Some._place (sym c.header_place.ensures ∙ c.in-Some.is)) in
    name_goes c.args.ranked.now.sight.world.under.rows.now (entries c.args.ranked.now.sight.world.under.table.now) (rank_in c.args.ranked.now.ranks.now) whole.formed c.parent_at-low.result c.args.at c.in_ok-edge.edge _ _ header (c.in_ok-edge.ensures whole header) c.in_ok-add_edge.ensures
