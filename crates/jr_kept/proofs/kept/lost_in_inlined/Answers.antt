use Rattle.std.proofs.lemmas.Result.{err_from_is_err_and}
use Rattle.jr_flow_defs.specs.Edges.{body_flow}
use Rattle.jr_flow.specs.Reached.{steps_of}
use Rattle.jr_kept.specs.Gathered.{use_in}
use Rattle.jr_kept.proofs.Comparing.{steps_within}
use Rattle.jr_kept.proofs.Arrivals.{definitions_kept, uses_numbered}
use Rattle.jr_kept.proofs.Changing.{never_disturbed, undisturbed_numbers}
use Rattle.jr_kept.proofs.Throwing.{throws_at_nodes}
use Rattle.jr_kept.proofs.kept.lost_in_inlined.Goals as goal

pub returns-clause-control : goal.returns-clause-control
returns-clause-control c = λ m w before after none. (c.in_ok-control.ensures.bodies m w before after).0 (c.in_ok-put_delayed.ensures.adds (c.first_of.ensures.none none))

pub returns-clause-uses : goal.returns-clause-uses
returns-clause-uses c = λ m w before after none no_use. let flows = c.args.flows.now in let p = flows.names.rows.now in let old = flows.before.now in let new = flows.after.now in
    let f = body_flow p m old.body in let g = body_flow flows.rows.now w new.body in
    let calm = c.in_ok-put_disturbing.ensures.checks (steps_within f old.body old.points.items (steps_of old) before) (c.first_of-2.ensures.none no_use) in
    let uses = c.in_ok-put_lost_definitions.ensures.checks calm.0 in (
      record {
        control = (c.in_ok-control.ensures.bodies m w before after).0 (c.in_ok-put_delayed.ensures.adds (c.first_of.ensures.none none));
        definitions = definitions_kept flows f g before after (use_in c.none-handing.result) c.none-handing.ensures uses.1;
      },
      λ few h. never_disturbed p f old.body old.points.items (steps_of old) before c.args.local (calm.1 few) h,
    )

pub returns-clause-only_control : goal.returns-clause-only_control
returns-clause-only_control c = λ m w seen before after free keeps. c.first_of.ensures.some (c.in_ok-put_delayed.ensures.kept m seen ((c.in_ok-control.ensures.bodies m w before after).1 keeps) free)

pub returns-clause-only_uses : goal.returns-clause-only_uses
returns-clause-only_uses c = λ m w before after few le keeps calm. let flows = c.args.flows.now in let p = flows.names.rows.now in let old = flows.before.now in let new = flows.after.now in let local = c.args.local in
    let f = body_flow p m old.body in let g = body_flow flows.rows.now w new.body in
    let uses = c.in_ok-put_lost_definitions.ensures.kept c.none-lost.ensures (uses_numbered flows f g before after (use_in c.none-handing.result) c.none-handing.ensures keeps.definitions) in
    c.first_of-2.ensures.some (c.in_ok-put_disturbing.ensures.kept (steps_within f old.body old.points.items (steps_of old) before) uses few
    (undisturbed_numbers p f old.body old.points.items (steps_of old) before local (throws_at_nodes p m old.body local le) calm))

pub returns-in_err-put_delayed-clause-large : goal.returns-in_err-put_delayed-clause-large
returns-in_err-put_delayed-clause-large c = λ m seen. let q = err_from_is_err_and c.from_residual-in_err-put_delayed.result c.from_residual-in_err-put_delayed.ensures.1 in rw (q.1, q.2) (c.in_err-put_delayed.ensures.large m seen)
