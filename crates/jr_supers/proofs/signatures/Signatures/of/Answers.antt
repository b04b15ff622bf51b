use Rattle.std.proofs.Common.{refl, arith}
use Rattle.jr_supers.proofs.Signing.{signatures_start, signatures_more, signatures_end}
use Rattle.jr_supers.proofs.signatures.Signatures.of.Goals as goal

pub loop-at-init : goal.loop-at-init
loop-at-init c = λ sized places. signatures_start _ _ _ _ c.new-numbers.ensures c.new-of_rows.ensures.items

pub loop-at-preserved : goal.loop-at-preserved
loop-at-preserved c = λ sized places. let h = c.loop-at.invariant sized places in signatures_more _ _ _ _ h (c.in_ok-signature.ensures sized places h.counted (omega arith)) c.in_ok-push.ensures.items refl

pub returns : goal.returns
returns c = λ sized places. signatures_end _ _ _ _ (c.loop-at.invariant sized places) (omega arith)
