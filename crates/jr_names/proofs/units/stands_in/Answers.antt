use Rattle.std.proofs.Common.{◌∙◌, ap, arith, ◌&&◌, nat_le, nat_lt, ◌≡◌, ◌<◌, ◌+◌, ◌^◌}
use Rattle.jr_tree.specs.Rows.{end}
use Rattle.jr_names.proofs.units.stands_in.Goals as goal

pub returns : goal.returns
returns c = λ ordered there. let m = c.args.marks.now in let p = m.rows.now in let w = ordered.within c.args.unit (end p 0) (let b = ordered.begins in omega (arith, b, there)) in
    let f = ordered.few in let u = c.unit_row-first.ensures in let small : c.unit_row-first.result + 1 < 2 ^ 32 = omega (arith, w, f, u) in let e = c.end_at.ensures small ∙ ap (end p) u in
    c.is_between.ensures ∙ (λ i. nat_le (u i) c.args.row && nat_lt c.args.row (e i))
