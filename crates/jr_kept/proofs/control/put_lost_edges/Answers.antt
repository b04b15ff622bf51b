use Rattle.std.proofs.Common.{sym, subst}
use Rattle.jr_flow.specs.Reached.{steps_of}
use Rattle.jr_kept.specs.Named.{AreNames, old_naming}
use Rattle.jr_kept.proofs.Comparing.{names_few}
use Rattle.jr_kept.proofs.control.put_lost_edges.Goals as goal

pub returns : goal.returns
returns c = λ named le within after. let flows = c.args.flows.now in let names = flows.names in let before = flows.before.now in let count = c.args.count in
    let made = c.in_ok-old.ensures named.size (names_few names.body count (old_naming names) before.body names.rows.now before.points.items c.args.of_points.items (steps_of before) named) within in
    c.put_edges_beside.ensures made.is_side made.of_rows made.of_points (subst (AreNames names.body count (old_naming names) before.body before.points.items) (sym made.of_names) named) le after
