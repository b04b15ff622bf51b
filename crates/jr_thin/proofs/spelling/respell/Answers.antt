use Rattle.std.proofs.Common.{arith, ◌<◌, length}
use Rattle.jr_thin.proofs.Spans.{rise_here}
use Rattle.jr_thin.proofs.spelling.respell.Goals as goal

pub spell_one-requires-clause-inside : goal.spell_one-requires-clause-inside
spell_one-requires-clause-inside c =
    let inside : c.loop-index.index < length c.args.tokens.now = omega arith in
    (rise_here c.loop-index.done (length c.args.bytes.now) c.args.tokens.now c.loop-index.index c.index-tokens-index.result inside c.index-tokens-index.is c.loop-index.invariant.rest).inside
