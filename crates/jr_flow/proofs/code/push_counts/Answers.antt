use Rattle.std.proofs.Common.{◌≡◌, ◌+◌, ◌^◌, ◌<◌, sym, subst, ◌∙◌, ap, arith}
use Rattle.jr_flow.specs.Coded.{count_of}
use Rattle.jr_flow.proofs.Coding.{count_pushed, counts_end}
use Rattle.jr_flow.proofs.code.push_counts.Goals as goal

pub loop-at-preserved : goal.loop-at-preserved
loop-at-preserved c = λ few. let fits : c.parent_at.result + 1 < 2 ^ 32 = subst (λ k. k + 1 < 2 ^ 32) (sym c.parent_at.ensures) (few c.loop-at.at (omega arith)) in
    count_pushed c.args.rows.now c.args.firsts.now c.loop-at.behinds.items c.push.new.self.items _ c.args.body c.loop-at.at c.args.end c.count_at.result (omega arith)
    (c.count_at.ensures fits ∙ ap (count_of c.args.firsts.now c.args.body) c.parent_at.ensures) c.in_ok-push.ensures.items (c.loop-at.invariant few)

pub returns : goal.returns
returns c = λ few. counts_end c.args.rows.now c.args.firsts.now c.loop-at.behinds.items _ c.args.body c.loop-at.at c.args.end (omega arith) (c.loop-at.invariant few)
