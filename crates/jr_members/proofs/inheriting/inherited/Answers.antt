use Rattle.std.proofs.Common.{arith, ◌∙◌}
use Rattle.std.proofs.lemmas.List.{drop_more, drop_all}
use Rattle.jr_members.specs.Gathered.{inherits}
use Rattle.jr_members.proofs.Each.{filter_end, filter_next, item_in}
use Rattle.jr_members.proofs.inheriting.inherited.Goals as goal

pub loop-at-preserved : goal.loop-at-preserved
loop-at-preserved c = λ t right own_rows rows. let all = c.args.found.now in let i = c.loop-at.at-index in
    filter_next (inherits c.args.sources.under.rows.now t c.args.kind c.args.own.now c.args.over c.args.from) all _ _ _ c.loop-at.some.items _ _ (drop_more all i 0 (omega arith))
    (c.inherits-is_such.ensures t right own_rows (rows.each _ (item_in all i 0 (omega arith)))) c.in_ok-push_if.ensures (c.loop-at.invariant t right own_rows rows)

pub returns : goal.returns
returns c = λ t right own_rows rows. filter_end (inherits c.args.sources.under.rows.now t c.args.kind c.args.own.now c.args.over c.args.from) c.args.found.now _ c.loop-at.some.items (drop_all c.loop-at.at-index c.args.found.now (omega arith)) (c.loop-at.invariant t right own_rows rows)
