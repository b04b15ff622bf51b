use Rattle.std.proofs.Common.{sym, ◌∙◌, below_more, arith}
use Rattle.jr_escapes.proofs.Outside.{even_behind, bad_at}
use Rattle.jr_escapes.proofs.escapes.first_bad_escape.Goals as goal

pub loop-at-preserved : goal.loop-at-preserved
loop-at-preserved c = record {
  rising = c.tokens_ahead-rest.ensures.rising;
  same = λ place behind. c.tokens_ahead-rest.ensures.same place (omega arith) ∙ c.loop-at.invariant.same place (omega arith);
  even = even_behind c.args.bytes.now c.loop-at.at c.loop-at.is_even c.is_even_behind-is_even.result c.loop-at.invariant.even c.is_even_behind-is_even.ensures;
  free = below_more _ _ c.loop-at.invariant.free
      (sym (bad_at c.args.bytes.now c.args.tokens.now c.tokens_ahead-rest.result.now c.loop-at.at c.loop-at.is_even c.is_bad_at.result c.loop-at.invariant.even
      (c.tokens_ahead-rest.ensures.same c.loop-at.at (omega arith) ∙ c.loop-at.invariant.same c.loop-at.at (omega arith)) c.is_bad_at.ensures) ∙ c.if-is_bad_at.false);
}
