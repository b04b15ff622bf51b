use Rattle.jr_flow.proofs.drawing.shorten.Goals as goal

pub loop-place-init : goal.loop-place-init
loop-place-init c = λ states g h. h

pub loop-place-preserved : goal.loop-place-preserved
loop-place-preserved c = λ states g h. c.shorten_one-is_new.ensures states g (c.loop-place.invariant states g h)

pub returns : goal.returns
returns c = λ states g h. c.loop-place.invariant states g h
