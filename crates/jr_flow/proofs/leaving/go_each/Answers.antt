use Rattle.std.proofs.Common.{arith, sym, ◌∙◌, append-nil}
use Rattle.jr_flow.specs.Places.{list_seen, ways_seen}
use Rattle.jr_flow.proofs.Ways.{at_more, at_end}
use Rattle.jr_flow.proofs.leaving.go_each.Goals as goal

pub loop-act-preserved : goal.loop-act-preserved
loop-act-preserved c = λ lists. at_more c.args.row c.args.from c.args.count (list_seen lists c.args.list) (ways_seen lists c.loop-act.out.items) (ways_seen lists c.go_to.new.out.items) _ c.loop-act.act (omega arith)
    (c.in_ok-go_to.ensures lists) (c.loop-act.invariant lists)

pub returns : goal.returns
returns c = λ lists. sym (append-nil (ways_seen lists c.loop-act.out.items)) ∙ at_end c.args.row c.args.count c.loop-act.act (list_seen lists c.args.list) (ways_seen lists c.loop-act.out.items) _ (omega arith) (c.loop-act.invariant lists)
