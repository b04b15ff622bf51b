use Rattle.std.proofs.Common.{arith, ◌<◌, length}
use Rattle.jr_base.specs.Respelled.{moved_tokens}
use Rattle.jr_thin.specs.Text.{choices}
use Rattle.jr_thin.proofs.Spans.{rise_here, moved_more}
use Rattle.jr_thin.proofs.spelling.moved_start.Goals as goal

pub loop-index-preserved : goal.loop-index-preserved
loop-index-preserved c =
    let tokens = c.args.tokens.now in
    let l = c.loop-index in
    let t = c.index-tokens-index.result in
    let inside : l.index < length tokens = omega arith in
    record {
      rest = (l.invariant.rest.0, (rise_here l.from l.invariant.rest.0 tokens l.index t inside c.index-tokens-index.is l.invariant.rest.1).rest);
      same = moved_more c.args.declaration c.args.name.now tokens (moved_tokens 0 0 (choices c.args.declaration c.args.name.now tokens c.args.targets.now)) c.args.targets.now l.index l.from l.at t
          c.is_of.result c.in_ok-start.start c.new_width.result c.in_ok-at.at c.requires.size inside c.index-tokens-index.is c.is_of.ensures c.in_ok-start.ensures c.new_width.ensures c.in_ok-at.ensures l.invariant.same;
    }
