use Rattle.std.proofs.Common.{◌≡◌, ◌∙◌, sym, ap, ◌&&◌, nat_eq}
use Rattle.std.proofs.lemmas.Result.{on_ok_weaker}
use Rattle.jr_flow.specs.Seen.{completion_seen}
use Rattle.jr_flow.specs.Places.{list_seen}
use Rattle.jr_flow.specs.Pended.{lists_of, ended}
use Rattle.jr_flow_defs.specs.States.{finally_left, try_left}
use Rattle.jr_flow.proofs.Departing.{first_left, last_left, other_left, adds_same, adds_only}
use Rattle.jr_flow.proofs.leaving.try_left.Goals as goal

pub returns-then-is_first : goal.returns-then-is_first
returns-then-is_first c = λ lt right fits block. on_ok_weaker c.body_left.result
    (λ ways. adds_same c.args.pending.now c.body_left.new.pending c.args.out.now.items c.body_left.new.out.items c.args.body _ _
    (first_left c.args.rows.now c.args.of.row c.args.of.has_finally c.args.part (completion_seen c.args.completion) (list_seen (lists_of c.body_left.new.pending) c.args.list) (sym (c.is_first.ensures lt) ∙ c.if-is_first.true)) ways)
    (c.body_left.ensures lt right fits block)

pub returns-then-is_block : goal.returns-then-is_block
returns-then-is_block c = λ lt right fits block. let w = list_seen (lists_of c.args.pending.now) c.args.list in
    let test = ap (λ k. c.args.of.has_finally && nat_eq c.args.part k) (sym block) ∙ sym c.is_block.ensures ∙ c.if-is_block.true in
    on_ok_weaker c.finally_left.result
    (λ ways. adds_same c.args.pending.now c.args.pending.now c.args.out.now.items c.finally_left.new.out.items c.args.body _ _
    (last_left c.args.rows.now c.args.of.row c.args.of.has_finally c.args.part (completion_seen c.args.completion) w (sym (c.is_first.ensures lt) ∙ c.if-is_first.false) test)
    (adds_only c.args.pending.now c.args.out.now.items c.finally_left.new.out.items _ right ways))
    (c.finally_left.ensures right)

pub returns : goal.returns
returns c = λ lt right fits block. let test = ap (λ k. c.args.of.has_finally && nat_eq c.args.part k) (sym block) ∙ sym c.is_block.ensures ∙ c.if-is_block.false in
    on_ok_weaker c.go_finally.result
    (λ ways. adds_same c.args.pending.now c.go_finally.new.pending c.args.out.now.items c.go_finally.new.out.items c.args.body _ _
    (other_left c.args.rows.now c.args.of.row c.args.of.has_finally c.args.part (completion_seen c.args.completion) (list_seen (lists_of c.go_finally.new.pending) c.args.list) (sym (c.is_first.ensures lt) ∙ c.if-is_first.false) test) ways)
    (c.go_finally.ensures right fits c.args.rows.now block)
