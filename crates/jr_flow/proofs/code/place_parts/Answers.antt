use Rattle.std.proofs.Common.{◌≡◌, ◌+◌, ◌-◌, ◌∙◌, ap, arith, slice_get, option_map, ◌<◌, length}
use Rattle.jr_flow.specs.Seen.{seen, act_seen}
use Rattle.jr_flow.proofs.Coding.{placed_starts, placed_next, placed_ends}
use Rattle.jr_flow.proofs.code.place_parts.Goals as goal

pub loop-turn-init : goal.loop-turn-init
loop-turn-init c = λ all size told. placed_starts c.args.rows.now c.args.body c.args.at all c.args.count c.args.behinds.now.items size

pub loop-turn-preserved : goal.loop-turn-preserved
loop-turn-preserved c = λ all size told. placed_next c.args.rows.now c.args.body c.args.at all c.args.count c.loop-turn.turn (c.args.count - c.loop-turn.turn - 1) (option_map act_seen c.get.result) c.loop-turn.behinds.items c.place.new.behinds.items c.args.behinds.now.items
    (omega arith) size (omega arith) (c.get.ensures ∙ told (c.args.count - c.loop-turn.turn - 1) (omega arith)) (c.loop-turn.invariant all size told) (c.place.ensures (omega arith))

pub returns : goal.returns
returns c = λ all size told. placed_ends c.args.rows.now c.args.body c.args.at all c.args.count c.loop-turn.turn c.loop-turn.behinds.items c.args.behinds.now.items (omega arith) (c.loop-turn.invariant all size told)
