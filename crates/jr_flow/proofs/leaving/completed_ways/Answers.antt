use Rattle.std.proofs.Common.{◌≡◌, ◌∙◌, sym, ap, subst, arith, ⊎_elim, ◌++◌, append-nil, nat_eq, ◌<◌, ◌≤◌}
use Rattle.std.proofs.lemmas.Result.{on_ok_weaker}
use Rattle.jr_flow.specs.Seen.{completion_seen}
use Rattle.jr_flow.specs.Places.{list_seen, ways_seen}
use Rattle.jr_flow.specs.Pended.{lists_of}
use Rattle.jr_flow.proofs.Departing.{leaves_body, adds_only, adds_equal, other_row}
use Rattle.jr_flow.proofs.leaving.completed_ways.Goals as goal

pub returns-then-is_body : goal.returns-then-is_body
returns-then-is_body c = λ m coded from to right fits. let lists = lists_of c.args.pending.now in
    adds_only c.args.pending.now c.args.out.now.items c.args.out.now.items _ right (sym (append-nil (ways_seen lists c.args.out.now.items))
    ∙ ap (λ xs. ways_seen lists c.args.out.now.items ++ xs) (sym (leaves_body c.args.rows.now m c.args.code.now.body c.args.row (completion_seen c.args.completion) (list_seen lists c.args.list) _ (sym c.is_body.ensures ∙ c.if-is_body.true))))

pub returns : goal.returns
returns c = λ m coded from to right fits. let test = sym c.is_body.ensures ∙ c.if-is_body.false in on_ok_weaker c.left_ways.result
    (λ ways. adds_equal c.args.pending.now c.left_ways.new.pending c.args.out.now.items c.left_ways.new.out.items _ _
    (sym (leaves_body c.args.rows.now m c.args.code.now.body c.args.row (completion_seen c.args.completion) (list_seen (lists_of c.left_ways.new.pending) c.args.list) _ test)) ways)
    (c.left_ways.ensures m coded (other_row c.args.row c.args.code.now.body from test) to right fits)
