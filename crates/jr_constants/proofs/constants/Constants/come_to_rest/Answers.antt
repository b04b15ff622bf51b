use Rattle.jr_constants.specs.Tables.{picks}
use Rattle.jr_constants.proofs.constants.Constants.come_to_rest.Goals as goal

pub loop-round-init : goal.loop-round-init
loop-round-init c = λ sized known. known

pub loop-round-preserved : goal.loop-round-preserved
loop-round-preserved c = λ sized known. c.find_all.ensures (picks c.args.constant.now) sized (c.in_ok-set_rows.ensures.known sized (c.loop-round.invariant sized known))

pub returns-then-is_at_rest-clause-known : goal.returns-then-is_at_rest-clause-known
returns-then-is_at_rest-clause-known c = λ sized known. c.in_ok-set_rows.ensures.known sized (c.loop-round.invariant sized known)

pub returns-then-is_at_rest-clause-whole : goal.returns-then-is_at_rest-clause-whole
returns-then-is_at_rest-clause-whole c = λ sized tree all known. record {
  known = c.in_ok-set_rows.ensures.known sized (c.loop-round.invariant sized known);
  stable = c.in_ok-set_rows.ensures.stable sized tree all (c.loop-round.invariant sized known);
  resting = c.is_at_rest.ensures sized all c.if-is_at_rest.true;
}
