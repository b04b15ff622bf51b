use Rattle.std.proofs.Common.{sym, ◌∙◌, arith}
use Rattle.std.proofs.lemmas.Bool.{false≢true}
use Rattle.jr_kept.proofs.Upward.{up_begins, up_goes, up_stops, up_ends}
use Rattle.jr_kept.proofs.parts.is_free.Goals as goal

pub loop-turn-init : goal.loop-turn-init
loop-turn-init c = (omega arith, up_begins c.args.rows.now c.args.body c.args.row)

pub loop-turn-preserved : goal.loop-turn-preserved
loop-turn-preserved c = let p = c.args.rows.now in let at = c.loop-turn.at in let inv = c.loop-turn.invariant in let below = c.is_below.ensures.0 c.if-not-is_below.false in let near = inv.0 in let behind = below.behind in let is = c.parent_at-at.ensures in (
  omega (arith, near, behind, is),
  up_goes p c.args.body c.args.row at c.loop-turn.is_held inv.1 c.parent_at-at.result c.is_finally.result c.is_either-is_held.result c.if-at-body.false below is c.is_finally.ensures c.is_either-is_held.ensures,
)

pub returns-then-at-body : goal.returns-then-at-body
returns-then-at-body c = up_ends c.args.rows.now c.args.body c.args.row c.loop-turn.at c.loop-turn.is_held c.loop-turn.invariant.1 c.is_free_at.result c.if-at-body.true c.is_free_at.ensures

pub returns-then-not-is_below : goal.returns-then-not-is_below
returns-then-not-is_below c = up_stops c.args.rows.now c.args.body c.args.row c.loop-turn.at c.loop-turn.is_held c.loop-turn.invariant.1 c.if-at-body.false
    (λ b. false≢true (sym c.if-not-is_below.true ∙ c.is_below.ensures.1 b))

pub returns : goal.returns
returns c = let past = c.loop-turn-test.false in let near = c.loop-turn.invariant.0 in
    up_ends c.args.rows.now c.args.body c.args.row c.loop-turn.at c.loop-turn.is_held c.loop-turn.invariant.1 c.is_free_at-2.result (omega (arith, past, near)) c.is_free_at-2.ensures
