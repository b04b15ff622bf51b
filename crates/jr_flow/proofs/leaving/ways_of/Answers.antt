use Rattle.std.proofs.Common.{◌≡◌, ◌∙◌, sym, ap, subst, arith, ◌++◌, ◌<◌}
use Rattle.std.proofs.lemmas.Result.{on_ok_weaker}
use Rattle.jr_flow.specs.Places.{ways_seen}
use Rattle.jr_flow.specs.Pended.{lists_of}
use Rattle.jr_flow.proofs.Departing.{before_hops, completed_hops, adds_only, adds_equal, row_near}
use Rattle.jr_flow.proofs.leaving.ways_of.Goals as goal

pub returns-in-Before : goal.returns-in-Before
returns-in-Before c = λ m coded from to right fits. let lists = lists_of c.args.pending.now in let here = row_near c.args.rows.now m c.args.code.now c.args.from.row coded to in
    on_ok_weaker c.before_ways.result
    (λ ways. adds_only c.args.pending.now c.args.out.now.items c.before_ways.new.out.items _ right (ways ∙ ap (λ xs. ways_seen lists c.args.out.now.items ++ xs)
    (before_hops c.args.rows.now m c.args.code.now.body lists c.args.from c.in-Before.act c.count-count.result _ c.in-Before.is
    (c.act-found.ensures here ∙ coded.table.acts_are c.args.from.row c.in-Before.act from to) (c.count-count.ensures here ∙ coded.table.counts c.args.from.row from to))))
    (c.before_ways.ensures lists)

pub returns-in-Completed : goal.returns-in-Completed
returns-in-Completed c = λ m coded from to right fits. on_ok_weaker c.completed_ways.result
    (λ ways. adds_equal c.args.pending.now c.completed_ways.new.pending c.args.out.now.items c.completed_ways.new.out.items _ _
    (completed_hops c.args.rows.now m c.args.code.now.body (lists_of c.completed_ways.new.pending) c.args.from c.in-Completed.completion c.in-Completed.is) ways)
    (c.completed_ways.ensures m coded from to right fits)
