use Rattle.jr_flow_defs.specs.Edges.{body_flow}
use Rattle.jr_kept.specs.Gathered.{use_in}
use Rattle.jr_kept.proofs.Arrivals.{definitions_kept, uses_numbered}
use Rattle.jr_kept.proofs.raising.lost_in_moved.Goals as goal

pub returns-clause-control : goal.returns-clause-control
returns-clause-control c = λ m w before after none. (c.in_ok-control.ensures.bodies m w before after).0 (c.first_of.ensures.none none)

pub returns-clause-uses : goal.returns-clause-uses
returns-clause-uses c = λ m w before after none no_use. let flows = c.args.flows.now in let old = flows.before.now in let new = flows.after.now in
    let f = body_flow flows.names.rows.now m old.body in let g = body_flow flows.rows.now w new.body in record {
      control = (c.in_ok-control.ensures.bodies m w before after).0 (c.first_of.ensures.none none);
      definitions = definitions_kept flows f g before after (use_in c.none-handing.result) c.none-handing.ensures (c.in_ok-put_lost_definitions.ensures.checks (c.first_of-2.ensures.none no_use)).1;
    }

pub returns-clause-only_control : goal.returns-clause-only_control
returns-clause-only_control c = λ m w before after keeps. c.first_of.ensures.some ((c.in_ok-control.ensures.bodies m w before after).1 keeps)

pub returns-clause-only_uses : goal.returns-clause-only_uses
returns-clause-only_uses c = λ m w before after keeps. let flows = c.args.flows.now in
    let f = body_flow flows.names.rows.now m flows.before.now.body in let g = body_flow flows.rows.now w flows.after.now.body in
    c.first_of-2.ensures.some (c.in_ok-put_lost_definitions.ensures.kept c.none-lost.ensures (uses_numbered flows f g before after (use_in c.none-handing.result) c.none-handing.ensures keeps.definitions))
