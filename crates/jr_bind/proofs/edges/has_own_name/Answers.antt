use Rattle.std.proofs.Common.{sym, ◌∙◌}
use Rattle.jr_defs.specs.Referents.{entries}
use Rattle.jr_plain.proofs.Bounds.{type_below}
use Rattle.jr_bind.proofs.RowByRow.{own_name, own_none, refers_to_type}
use Rattle.jr_bind.proofs.edges.has_own_name.Goals as goal

pub returns-in-Some : goal.returns-in-Some
returns-in-Some c = λ whole lt yes. let refers = sym c.referred_type.ensures ∙ c.in-Some.is in
    own_name c.args.ranked.now.sight.world.under.rows.now (entries c.args.ranked.now.sight.world.under.table.now) c.args.at c.in-Some.over refers (c.have_one_name.ensures c.args.ranked.now.sight.world.under.rows.now whole.sight_is.world.seen.placed.are (type_below c.args.ranked.now.sight.world.under.rows.now c.in-Some.over (refers_to_type c.args.ranked.now.sight.world.under.rows.now ((entries c.args.ranked.now.sight.world.under.table.now) c.args.at) c.in-Some.over refers)) lt yes)

pub returns-in-None : goal.returns-in-None
returns-in-None c = λ whole lt yes. own_none c.args.ranked.now.sight.world.under.rows.now (entries c.args.ranked.now.sight.world.under.table.now) c.args.at (sym c.referred_type.ensures ∙ c.in-None.is)
