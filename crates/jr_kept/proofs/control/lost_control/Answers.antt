use Rattle.jr_flow_defs.specs.Edges.{body_flow}
use Rattle.jr_flow_defs.specs.Kept.{joined_flow}
use Rattle.jr_flow.specs.Reached.{steps_of}
use Rattle.jr_kept.proofs.Comparing.{steps_within, flows_kept, flows_numbered}
use Rattle.jr_kept.proofs.control.lost_control.Goals as goal

pub returns-clause-bodies : goal.returns-clause-bodies
returns-clause-bodies c = λ m w before after. let flows = c.args.flows.now in let old = flows.before.now in let new = flows.after.now in
    let f = body_flow flows.names.rows.now m old.body in let g = body_flow flows.rows.now w new.body in
    let told = c.in_ok-put_lost_control.ensures (steps_within f old.body old.points.items (steps_of old) before) (steps_within g new.body new.points.items (steps_of new) after) in
    (λ none. flows_kept flows f g before after (told.none none).1, λ kept. told.kept c.none-lost.ensures (flows_numbered flows f g before after kept))

pub returns-clause-joined : goal.returns-clause-joined
returns-clause-joined c = λ m w call method before after. let flows = c.args.flows.now in let old = flows.before.now in let new = flows.after.now in
    let f = body_flow flows.names.rows.now m old.body in let g = joined_flow flows.rows.now w new.body call method in
    let told = c.in_ok-put_lost_control.ensures (steps_within f old.body old.points.items (steps_of old) before) (steps_within g new.body new.points.items (steps_of new) after) in
    (λ none. flows_kept flows f g before after (told.none none).1, λ kept. told.kept c.none-lost.ensures (flows_numbered flows f g before after kept))
