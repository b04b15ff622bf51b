use Rattle.std.proofs.Common.{◌+◌, sym, subst, arith, get_or}
use Rattle.std.proofs.lemmas.List.Elements.{Contains-get_or}
use Rattle.std.proofs.lemmas.Option.{slice_get-get_or}
use Rattle.jr_kept.proofs.Rounding.{IsLastRound, round_begun, round_next, round_found, round_none}
use Rattle.jr_kept.proofs.flows.body_among.Goals as goal

pub loop-body-init : goal.loop-body-init
loop-body-init c = λ few are. round_begun c.args.rows.now c.args.row c.args.bodies.now

pub loop-body-preserved : goal.loop-body-preserved
loop-body-preserved c = λ few are. let bodies = c.args.bodies.now in let i = c.loop-body.body-index in let lt = c.loop-body-test.true in let rows = c.args.rows.now in let row = c.args.row in
    let body = get_or bodies i 0 in let is = are.are body (Contains-get_or bodies i 0 (omega (arith, lt))) in let less = is.few in
    subst (λ o. IsLastRound rows row bodies (i + 1) o) (sym c.last_if-found.ensures)
    (round_next rows row i body bodies c.loop-body.found c.is_in_body.result are is (slice_get-get_or bodies i 0 (omega (arith, lt))) (c.is_in_body.ensures (omega (arith, less, few))) (c.loop-body.invariant few are))

pub returns-clause-round : goal.returns-clause-round
returns-clause-round c = λ few are. let past = c.loop-body-test.false in
    round_found c.args.rows.now c.args.row c.loop-body.body-index c.args.bodies.now c.loop-body.found are (omega (arith, past)) (c.loop-body.invariant few are)

pub returns-clause-none : goal.returns-clause-none
returns-clause-none c = λ few are. let past = c.loop-body-test.false in
    round_none c.args.rows.now c.args.row c.loop-body.body-index c.args.bodies.now c.loop-body.found are (omega (arith, past)) (c.loop-body.invariant few are)
