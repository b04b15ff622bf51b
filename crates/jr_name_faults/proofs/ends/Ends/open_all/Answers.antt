use Rattle.std.proofs.Common.{arith}
use Rattle.std.proofs.lemmas.List.{drop_more, drop_all}
use Rattle.jr_name_faults.proofs.Opening.{opening_start, opening_item, opening_next, opening_end}
use Rattle.jr_name_faults.proofs.ends.Ends.open_all.Goals as goal

pub loop-row-init : goal.loop-row-init
loop-row-init c = λ p places below. opening_start p _ _ _ below

pub loop-row-preserved : goal.loop-row-preserved
loop-row-preserved c = λ p places below. let inv = c.loop-row.invariant p places below in let is = drop_more c.args.rows.now c.loop-row.row-index 0 (omega arith) in
    opening_next _ c.name.result _ _ is inv (c.name.ensures p places (opening_item _ _ is inv)) c.open_until.ensures

pub returns : goal.returns
returns c = λ p places below. opening_end (drop_all c.loop-row.row-index c.args.rows.now (omega arith)) (c.loop-row.invariant p places below)
