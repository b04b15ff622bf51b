use Rattle.std.proofs.Common.{◌≡◌, ◌∙◌, sym, ap, subst}
use Rattle.std.proofs.lemmas.Result.{on_ok_weaker}
use Rattle.jr_flow_defs.specs.Acts.{acts}
use Rattle.jr_flow_defs.specs.States.{left_by}
use Rattle.jr_flow.specs.Seen.{completion_seen}
use Rattle.jr_flow.specs.Places.{list_seen}
use Rattle.jr_flow.specs.Pended.{lists_of, AddsWays, ended}
use Rattle.jr_flow.proofs.Departing.{try_part, other_part, adds_same, adds_only}
use Rattle.jr_flow.proofs.leaving.part_ways.Goals as goal

pub returns-in-Try : goal.returns-in-Try
returns-in-Try c = λ m near last_is behind_is right fits. let w = list_seen (lists_of c.try_left.new.pending) c.args.list in on_ok_weaker c.try_left.result
    (λ ways. subst (λ b. AddsWays c.args.pending.now c.try_left.new.pending c.args.out.now.items c.try_left.new.out.items (ended b (left_by c.args.label.now c.args.rows.now m c.args.row c.args.part (completion_seen c.args.completion) w))) c.body.ensures
    (adds_same c.args.pending.now c.try_left.new.pending c.args.out.now.items c.try_left.new.out.items c.body.result _ _
    (try_part c.args.rows.now m c.args.label.now c.args.row c.args.part _ (completion_seen c.args.completion) w c.in-Try.is) ways))
    (c.try_left.ensures near right fits (c.last.ensures ∙ last_is))

pub returns-in_default : goal.returns-in_default
returns-in_default c = λ m near last_is behind_is right fits. let w = list_seen (lists_of c.args.pending.now) c.args.list in on_ok_weaker c.go_behind.result
    (λ ways. subst (λ b. AddsWays c.args.pending.now c.args.pending.now c.args.out.now.items c.go_behind.new.out.items (ended b (left_by c.args.label.now c.args.rows.now m c.args.row c.args.part (completion_seen c.args.completion) w))) c.body-in_default.ensures
    (adds_same c.args.pending.now c.args.pending.now c.args.out.now.items c.go_behind.new.out.items c.body-in_default.result _ _
    (other_part c.args.rows.now m c.args.label.now c.args.row c.args.part (completion_seen c.args.completion) w c.in_default.not-Try)
    (adds_only c.args.pending.now c.args.out.now.items c.go_behind.new.out.items _ right ways)))
    (c.go_behind.ensures (lists_of c.args.pending.now) (acts c.args.rows.now m c.args.row) c.args.part (c.behind-behind.ensures ∙ behind_is))
