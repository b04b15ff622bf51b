use Rattle.std.proofs.Common.{sym, subst}
use Rattle.jr_kept.specs.Named.{origin_in}
use Rattle.jr_kept.specs.Handed.{CrossesOnce, OnlyCrosses, HasCrossing}
use Rattle.jr_kept.proofs.Crossing.{crossing_stands}
use Rattle.jr_kept.proofs.Handover.{crosses_once}
use Rattle.jr_kept.proofs.handing.Handing.of.Goals as goal

pub returns-clause-checks : goal.returns-clause-checks
returns-clause-checks c = λ few_call few_method few_statement none. let put = c.put_unless.ensures.none none in let crossing = c.in_ok-crossing.crossing in let handing = c.in_ok-handing.handing in (
  put.0,
  record {
    crossing = crossing;
    is = c.in_ok-crossing.ensures.is few_call few_method few_statement;
    only = subst (λ ps. OnlyCrosses handing crossing ps) c.as_slice-points.ensures.value c.in_ok-handing.ensures.only;
    all = subst (λ ps. HasCrossing handing crossing ps (origin_in c.args.flows.now.origin.now)) c.as_slice-points.ensures.value (c.has_all.ensures.0 put.1);
  },
)

pub returns-clause-kept : goal.returns-clause-kept
returns-clause-kept c = λ few_call few_method few_statement none h. let flows = c.args.flows.now in let crossing = c.in_ok-crossing.crossing in let handing = c.in_ok-handing.handing in let origin = origin_in flows.origin.now in
    c.put_unless.ensures.kept none (c.has_all.ensures.1 (subst (λ ps. HasCrossing handing crossing ps origin) (sym c.as_slice-points.ensures.value)
    (crossing_stands handing crossing flows.rows.now flows.after.now.points.items c.args.call c.args.method origin (c.in_ok-crossing.ensures.is few_call few_method few_statement) (c.in_ok-crossing.ensures.none few_method) h)))

pub returns-clause-once : goal.returns-clause-once
returns-clause-once c = λ few_call few_method few_statement hands none. let flows = c.args.flows.now in let crossing = c.in_ok-crossing.crossing in let origin = origin_in flows.origin.now in
    let whole : CrossesOnce flows.span crossing c.as_slice-points.result.now origin = subst (λ ps. CrossesOnce flows.span crossing ps origin) (sym c.as_slice-points.ensures.value)
    (crosses_once flows.span crossing flows.rows.now flows.after.now.points.items c.args.call c.args.method origin (c.in_ok-crossing.ensures.is few_call few_method few_statement) (c.in_ok-crossing.ensures.none few_method) hands) in
    c.put_unless.ensures.kept none (c.has_all.ensures.1 (c.in_ok-handing.ensures.every origin whole))
