use Rattle.std.proofs.Common.{◌<◌, sym, ◌∙◌, arith, length}
use Rattle.jr_flow.proofs.Coding.{end_few}
use Rattle.jr_flow.proofs.Bounding.{begins, next_row, bounded_tells}
use Rattle.jr_flow.proofs.limit.is_small.Goals as goal

pub loop-at-init : goal.loop-at-init
loop-at-init c = λ tree few lt. begins c.args.rows.now c.args.body tree

pub loop-at-preserved : goal.loop-at-preserved
loop-at-preserved c = λ tree few lt. let p = c.args.rows.now in let at = c.loop-at.at in let stop = c.end_at-at-end.ensures (omega (arith, few, lt)) in
    let last = tree.last c.args.body lt in let test = c.loop-at-test.true in let inside : at < length p = omega (arith, stop, last, test) in
    next_row p c.args.body at c.loop-at.most c.most_points.result c.saturating_add-most.result (omega (arith, stop, test)) (sym (c.is_structured.ensures (omega (arith, few, inside)) (end_few p at tree few inside)) ∙ c.if-not-is_structured.false)
    (c.most_points.ensures (omega (arith, few, inside)) (let le = tree.last at inside in omega (arith, le, few))) (λ le. omega (arith, c.saturating_add-most.ensures, le)) (c.loop-at.invariant tree few lt)

pub returns : goal.returns
returns c = λ tree few lt e. let stop = c.end_at-at-end.ensures (omega (arith, few, lt)) in
    bounded_tells c.args.rows.now c.args.body c.loop-at.at c.loop-at.most (omega (arith, stop)) (c.is_within_limit.ensures e) (c.loop-at.invariant tree few lt)
