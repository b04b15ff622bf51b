use Rattle.std.proofs.Common.{sym, ◌∙◌, arith}
use Rattle.jr_defs.specs.Referents.{entries}
use Rattle.jr_bind.proofs.RowByRow.{import_none, import_named}
use Rattle.jr_bind.proofs.edges.confirm_import.Goals as goal

pub returns-then-not-is_import : goal.returns-then-not-is_import
returns-then-not-is_import c = λ whole. import_none c.args.ranked.now.sight.world.under.rows.now (entries c.args.ranked.now.sight.world.under.table.now) c.args.at (sym c.is_import.ensures ∙ c.if-not-is_import.true)

pub returns : goal.returns
returns c = λ whole. import_named c.args.ranked.now.sight.world.under.rows.now whole.formed (entries c.args.ranked.now.sight.world.under.table.now) c.args.at c.saturating_add-name.result whole.few (sym c.is_import.ensures ∙ c.if-not-is_import.false) (λ lt. omega (arith, c.saturating_add-name.ensures)) (λ lt. c.has_own_name.ensures whole lt c.in_ok-claim.ensures)
