use Rattle.std.proofs.Common.{◌≡◌, sym, ◌∙◌, None, Option, ℕ}
use Rattle.std.proofs.lemmas.Result.{IfOk-weaker}
use Rattle.jr_defs.specs.Referents.{entries}
use Rattle.jr_bind.specs.Ranked.{rank_in}
use Rattle.jr_headers.specs.Rounds.{look_type}
use Rattle.jr_headers.proofs.Headed.{header_below}
use Rattle.jr_bind.specs.Edges.{IsOpenName, IsNameEdge}
use Rattle.jr_bind.proofs.RowByRow.{name_open, name_settled}
use Rattle.jr_bind.proofs.edges.name_edge.Goals as goal

pub returns-then-rank-eq0 : goal.returns-then-rank-eq0
returns-then-rank-eq0 c = λ whole header. let zero = sym c.rank_of-rank.ensures ∙ c.if-rank-eq0.true in
    IfOk-weaker c.open_edge.result (λ edge. IsOpenName c.args.ranked.now.sight.world.under.rows.now (entries c.args.ranked.now.sight.world.under.table.now) (rank_in c.args.ranked.now.ranks.now) c.args.low c.args.name c.in_ok-first.first edge) (λ edge. IsNameEdge c.args.ranked.now.sight.world.under.rows.now (entries c.args.ranked.now.sight.world.under.table.now) (rank_in c.args.ranked.now.ranks.now) c.args.low c.args.name edge)
    (λ edge h. name_open c.args.ranked.now.sight.world.under.rows.now (entries c.args.ranked.now.sight.world.under.table.now) (rank_in c.args.ranked.now.ranks.now) c.args.low c.args.name c.in_ok-first.first edge (c.in_ok-first.ensures c.args.low whole header) zero h) (c.open_edge.ensures zero)

pub returns : goal.returns
returns c = λ whole header. IfOk-weaker c.settled_edge.result (λ edge. ((entries c.args.ranked.now.sight.world.under.table.now) c.args.name ≡ look_type c.args.ranked.now.sight.world.under.rows.now (entries c.args.ranked.now.sight.world.under.table.now) c.args.name) × (c.in_ok-first.first ≡ None) × (edge ≡ None)) (λ edge. IsNameEdge c.args.ranked.now.sight.world.under.rows.now (entries c.args.ranked.now.sight.world.under.table.now) (rank_in c.args.ranked.now.ranks.now) c.args.low c.args.name edge)
    (λ edge h. name_settled c.args.ranked.now.sight.world.under.rows.now (entries c.args.ranked.now.sight.world.under.table.now) (rank_in c.args.ranked.now.ranks.now) c.args.low c.args.name c.in_ok-first.first edge (c.in_ok-first.ensures c.args.low whole header) (λ zero. c.if-rank-eq0.false (c.rank_of-rank.ensures ∙ zero)) h)
    (c.settled_edge.ensures whole (header_below c.args.ranked.now.sight.world.under.rows.now c.args.low c.args.name header) (whole.formed.header_name c.args.low c.args.name header))
