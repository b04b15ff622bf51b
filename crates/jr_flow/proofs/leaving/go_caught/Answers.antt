use Rattle.std.proofs.Common.{◌≡◌, ◌∙◌, sym, subst, ap, ◌++◌, map, arith, append-nil, ◌+◌, ◌-◌}
use Rattle.std.proofs.lemmas.Result.{on_ok_weaker}
use Rattle.jr_tree.specs.Rows.{end}
use Rattle.jr_flow_defs.specs.Acts.{siblings, children}
use Rattle.jr_flow_defs.specs.States.{plainly, catches}
use Rattle.jr_flow.specs.Seen.{completion_seen}
use Rattle.jr_flow.specs.Places.{list_seen, ways_seen}
use Rattle.jr_flow.specs.Pended.{caught_by, catch_ways}
use Rattle.jr_flow.proofs.Departing.{catch_ways_are}
use Rattle.jr_flow.proofs.leaving.go_caught.Goals as goal

pub returns-then-is_throw : goal.returns-then-is_throw
returns-then-is_throw c = λ lt lists. let p = c.args.rows.now in let w = list_seen lists c.args.list in
    let stop = c.end_at-end.ensures lt in let from : c.saturating_add-first.result ≡ c.args.at + 1 = omega (arith, c.saturating_add-first.ensures, lt) in
    let room : c.saturating_sub.result ≡ end p c.args.at - c.args.at = omega (arith, c.saturating_sub.ensures, stop) in
    on_ok_weaker c.go_catches.result
    (λ ways. ways ∙ ap (λ r. ways_seen lists c.args.out.now.items ++ catch_ways p w (siblings p r c.saturating_add-first.result c.end_at-end.result)) room
    ∙ ap (λ k. ways_seen lists c.args.out.now.items ++ catch_ways p w (siblings p (end p c.args.at - c.args.at) k c.end_at-end.result)) from
    ∙ ap (λ e. ways_seen lists c.args.out.now.items ++ catch_ways p w (siblings p (end p c.args.at - c.args.at) (c.args.at + 1) e)) stop
    ∙ ap (λ xs. ways_seen lists c.args.out.now.items ++ xs) (catch_ways_are p w (children p c.args.at) ∙ ap (λ b. map plainly (caught_by b (catches p c.args.at) w)) (sym c.if-is_throw.true ∙ c.is_throw.ensures)))
    (c.go_catches.ensures lists)

pub returns : goal.returns
returns c = λ lt lists. sym (append-nil (ways_seen lists c.args.out.now.items))
    ∙ ap (λ b. ways_seen lists c.args.out.now.items ++ map plainly (caught_by b (catches c.args.rows.now c.args.at) (list_seen lists c.args.list))) (sym c.if-is_throw.false ∙ c.is_throw.ensures)
