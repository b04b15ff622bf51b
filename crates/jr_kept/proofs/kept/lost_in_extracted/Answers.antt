use Rattle.std.proofs.Common.{◌≡◌, ℕ, Bool, None, sym, subst, arith}
use Rattle.jr_flow_defs.specs.Edges.{body_flow, IsGraph}
use Rattle.jr_flow_defs.specs.Kept.{joined_flow, Hands, IsHanding}
use Rattle.jr_flow.specs.Reached.{steps_of}
use Rattle.jr_kept.specs.Named.{origin_in}
use Rattle.jr_kept.specs.Gathered.{use_in}
use Rattle.jr_kept.specs.Spliced.{exit_number}
use Rattle.jr_kept.specs.Carried.{Leaves, IsOtherCopy, IsUsedBehind}
use Rattle.jr_kept.proofs.Arrivals.{definitions_handed, uses_handed}
use Rattle.jr_kept.proofs.Comparing.{steps_within}
use Rattle.jr_kept.proofs.Crossing.{hands_tell, own_tells}
use Rattle.jr_kept.proofs.AtOnce.{leaves_at_once, numbers_at_once}
use Rattle.jr_kept.proofs.Losing.{has_exits, never_lost, unlost_numbers}
use Rattle.jr_kept.proofs.kept.lost_in_extracted.Goals as goal

pub returns-clause-control : goal.returns-clause-control
returns-clause-control c = λ m w before after old few_method none. let flows = c.args.flows.now in let p = flows.names.rows.now in let few = old.few in let row = old.row in let points = flows.before.now.points.items in let all = steps_of flows.before.now in (
  (c.in_ok-control.ensures.joined m w c.args.call c.args.method before after).0 (c.in_ok-put_held_returns.ensures.adds (c.first_of.ensures.none none)),
  leaves_at_once p flows.rows.now m flows.names.body old.tree old.row points all (subst (λ n. IsGraph (body_flow p m n) n points all) old.same before) c.args.method (origin_in flows.origin.now)
      (c.in_ok-put_held_returns.ensures.leaves (omega (arith, few, row)) few_method (c.first_of.ensures.none none)),
)

pub returns-clause-only_control : goal.returns-clause-only_control
returns-clause-only_control c = λ m w before after old few_method keeps returns. let flows = c.args.flows.now in let p = flows.names.rows.now in let few = old.few in let row = old.row in let points = flows.before.now.points.items in let all = steps_of flows.before.now in
    let held = c.in_ok-put_held_returns.ensures in
    c.first_of.ensures.some (held.kept (omega (arith, few, row)) few_method ((c.in_ok-control.ensures.joined m w c.args.call c.args.method before after).1 keeps)
    (numbers_at_once p flows.rows.now m flows.names.body old.tree old.row (held.shaped (omega (arith, few, row))) points all (subst (λ n. IsGraph (body_flow p m n) n points all) old.same before) c.args.method (origin_in flows.origin.now) returns))

pub returns-clause-uses : goal.returns-clause-uses
returns-clause-uses c = λ m w before after alone old few_call few_method few_statement none no_use. let flows = c.args.flows.now in let q = flows.rows.now in let new = flows.after.now in let call = c.args.call in let method = c.args.method in
    let f = body_flow flows.names.rows.now m flows.before.now.body in let g = joined_flow q w new.body call method in let handing = c.in_ok-handing.handing in let origin = origin_in flows.origin.now in let inner = c.args.inner.now in
    let more = inner.points.items in let steps = steps_of inner in
    let values = c.in_ok-put_lost_values.ensures.checks (steps_within (body_flow q w inner.body) inner.body more steps alone.1) (has_exits q w inner.body more steps alone.1) (steps_within g new.body new.points.items (steps_of new) after) (c.first_of-2.ensures.none no_use) in
    let uses = c.in_ok-put_lost_definitions.ensures.checks values.0 in
    let handed = (c.in_ok-handing.ensures.checks few_call few_method few_statement uses.0).1 in
    let own = own_tells q g new.body new.points.items (steps_of new) after handing call method origin handed in (
      (c.in_ok-control.ensures.joined m w call method before after).0 (c.in_ok-put_held_returns.ensures.adds (c.first_of.ensures.none none)),
      definitions_handed flows f g before after (IsHanding q g call method) (Hands q g call method origin) (use_in handing)
          (hands_tell q g new.body new.points.items (steps_of new) after handing call method origin handed) own uses.1,
      never_lost q w new.body call method new.points.items more (steps_of new) steps after (subst (λ n. IsGraph (body_flow q w n) n more steps) alone.0 alone.1) handing origin
          (subst (λ n. (t : Bool) (d row copy : ℕ) → Leaves more steps (exit_number t) d row → use_in handing row ≡ None → IsOtherCopy origin d copy → IsUsedBehind new.points.items (steps_of new) n t copy → ⊥) alone.0 values.1)
          (λ d. (own d).1),
      let few = old.few in let row = old.row in let p = flows.names.rows.now in let points = flows.before.now.points.items in let all = steps_of flows.before.now in
          leaves_at_once p q m flows.names.body old.tree old.row points all (subst (λ n. IsGraph (body_flow p m n) n points all) old.same before) method origin
          (c.in_ok-put_held_returns.ensures.leaves (omega (arith, few, row)) few_method (c.first_of.ensures.none none)),
    )

pub returns-clause-only_uses : goal.returns-clause-only_uses
returns-clause-only_uses c = λ m w before after alone other few_call few_method few_statement once keeps values. let flows = c.args.flows.now in let q = flows.rows.now in let new = flows.after.now in let call = c.args.call in let method = c.args.method in
    let f = body_flow flows.names.rows.now m flows.before.now.body in let g = joined_flow q w new.body call method in let handing = c.in_ok-handing.handing in let origin = origin_in flows.origin.now in let inner = c.args.inner.now in
    let more = inner.points.items in let steps = steps_of inner in
    let none = c.in_ok-handing.ensures.once few_call few_method few_statement once c.none-lost.ensures in
    let handed = (c.in_ok-handing.ensures.checks few_call few_method few_statement none).1 in
    let own = own_tells q g new.body new.points.items (steps_of new) after handing call method origin handed in
    let uses = c.in_ok-put_lost_definitions.ensures.kept none (uses_handed flows f g before after (IsHanding q g call method) (Hands q g call method origin) (use_in handing)
    (hands_tell q g new.body new.points.items (steps_of new) after handing call method origin handed) own keeps) in
    c.first_of-2.ensures.some (c.in_ok-put_lost_values.ensures.kept (steps_within (body_flow q w inner.body) inner.body more steps alone.1) (has_exits q w inner.body more steps alone.1) (steps_within g new.body new.points.items (steps_of new) after) uses
    (subst (λ n. (t : Bool) (d row copy : ℕ) → Leaves more steps (exit_number t) d row → use_in handing row ≡ None → IsOtherCopy origin d copy → IsUsedBehind new.points.items (steps_of new) n t copy → ⊥) (sym alone.0)
    (unlost_numbers q w new.body call method new.points.items more (steps_of new) steps after (subst (λ n. IsGraph (body_flow q w n) n more steps) alone.0 alone.1) other handing origin values (λ d. (own d).0))))
