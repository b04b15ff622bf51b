use Rattle.std.proofs.Common.{refl}
use Rattle.std.proofs.lemmas.Result.{on_ok_weaker}
use Rattle.jr_flow_defs.specs.Kept.{Same}
use Rattle.jr_flow.specs.Reached.{steps_of}
use Rattle.jr_kept.specs.Named.{old_naming, new_naming}
use Rattle.jr_kept.specs.Compared.{SameNames, OldEdge, NewEdge}
use Rattle.jr_kept.proofs.Telling.{tells_like}
use Rattle.jr_kept.proofs.Comparing.{names_few, sides_up, sides_down}
use Rattle.jr_kept.proofs.control.put_edges_beside.Goals as goal

pub returns : goal.returns
returns c = λ side rows points named le within. let flows = c.args.flows.now in let names = flows.names in let before = flows.before.now in let after = flows.after.now in let count = c.args.count in
    let old = c.args.old.now in let new = c.in_ok-new.new in let s = steps_of before in let t = steps_of after in let other = new_naming names flows.origin.now in let found = c.in_ok-of_points.of_points.items in
    let here = c.in_ok-of_points.ensures le in
    let made = c.in_ok-new.ensures here.size (names_few names.body count other after.body flows.rows.now after.points.items found t here) within in
    on_ok_weaker c.put_edges_of_one_side.result
    (λ tells. tells_like c.args.lost.now c.put_edges_of_one_side.new.lost (SameNames old s new t count) (Same (OldEdge flows) (NewEdge flows))
    (sides_up old new names.rows.now flows.rows.now before.points.items after.points.items old.names.items found s t names.body count (old_naming names) other before.body after.body rows points refl made.of_rows made.of_points made.of_names side.bound named here)
    (sides_down old new names.rows.now flows.rows.now before.points.items after.points.items old.names.items found s t names.body count (old_naming names) other before.body after.body rows points refl made.of_rows made.of_points made.of_names side.bound named here)
    tells)
    (c.put_edges_of_one_side.ensures s t side made.is_side)
