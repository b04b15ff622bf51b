use Rattle.std.proofs.Common.{◌≡◌, ◌∙◌, sym, ap, subst, arith, ◌+◌, ◌^◌, ◌<◌, length, unwrap_or}
use Rattle.std.proofs.lemmas.Result.{on_ok_weaker}
use Rattle.jr_flow_defs.specs.Acts.{acts, last}
use Rattle.jr_flow_defs.specs.States.{behind}
use Rattle.jr_flow.specs.Seen.{completion_seen}
use Rattle.jr_flow.specs.Places.{list_seen}
use Rattle.jr_flow.specs.Coded.{item}
use Rattle.jr_flow.specs.Pended.{lists_of}
use Rattle.std.proofs.lemmas.Bool.{ltb-false}
use Rattle.jr_flow.proofs.Coding.{label_of}
use Rattle.jr_flow.proofs.Departing.{stands_over, over_label}
use Rattle.jr_flow.proofs.leaving.left_ways.Goals as goal

pub returns-in-Some : goal.returns-in-Some
returns-in-Some c = λ m coded from to right fits. let p = c.args.rows.now in let over = stands_over p m c.args.code.now c.args.part coded from to in let is = c.parent_at-row.ensures in
    let inside : c.parent_at-row.result < length p = subst (λ n. n < length p) (sym is) over.inside in
    on_ok_weaker c.part_ways.result
    (λ ways. over_label c.args.pending.now c.part_ways.new.pending c.args.out.now.items c.part_ways.new.out.items p m c.args.code.now.body 0 c.args.part (completion_seen c.args.completion) (list_seen (lists_of c.part_ways.new.pending) c.args.list)
    c.in-Some.over.now.label c.parent_at-row.result is (label_of p c.parent_at-row.result c.in-Some.over.now inside c.in-Some.ensures.lookup.1) ways)
    (c.part_ways.ensures m (subst (λ n. n + 1 < 2 ^ 32) (sym is) over.near) (subst (λ n. unwrap_or (item c.args.code.now.lasts.items c.args.code.now.body n) n ≡ last p n) (sym is) over.last_is)
    (over.behind_is ∙ ap (λ n. behind (acts p m n) c.args.part) (sym is)) right fits)

pub returns-in-None : goal.returns-in-None
returns-in-None c = λ m coded from to right fits. let over = stands_over c.args.rows.now m c.args.code.now c.args.part coded from to in let past = c.in-None.ensures.lookup.3 in
    let is = c.parent_at-row.ensures in let inside = over.inside in absurd (omega (arith, past, is, inside))
