use Rattle.std.proofs.Common.{ap, arith, ◌++◌, flat_map}
use Rattle.std.proofs.lemmas.List.{drop_more, drop_all}
use Rattle.jr_defs.specs.Referents.{entries}
use Rattle.jr_extract.specs.Handing.{typed}
use Rattle.jr_extract.proofs.Adding.{flat_end, flat_next}
use Rattle.jr_extract.proofs.locals.variables_of.Goals as goal

pub loop-row-init : goal.loop-row-init
loop-row-init c = λ h. ap (λ xs. xs ++ flat_map (typed c.args.under.now.rows.now (entries c.args.under.now.table.now)) c.args.locals.now) c.new-all.ensures.items

pub loop-row-preserved : goal.loop-row-preserved
loop-row-preserved c = λ h. flat_next (typed c.args.under.now.rows.now (entries c.args.under.now.table.now)) _ _ _ _ _ _ (drop_more c.args.locals.now c.loop-row.row-index _ (omega arith)) (c.in_ok-push_typed.ensures h) (c.loop-row.invariant h)

pub returns : goal.returns
returns c = λ h. flat_end (typed c.args.under.now.rows.now (entries c.args.under.now.table.now)) _ _ _ (drop_all c.loop-row.row-index c.args.locals.now (omega arith)) (c.loop-row.invariant h)
