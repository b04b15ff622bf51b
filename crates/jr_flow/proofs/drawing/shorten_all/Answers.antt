use Rattle.jr_flow.proofs.drawing.shorten_all.Goals as goal

pub loop-round-init : goal.loop-round-init
loop-round-init c = λ states g h. h

pub loop-round-preserved : goal.loop-round-preserved
loop-round-preserved c = λ states g h. c.shorten.ensures states g (c.loop-round.invariant states g h)

pub returns-then-not-shorten : goal.returns-then-not-shorten
returns-then-not-shorten c = λ states g h. c.shorten.ensures states g (c.loop-round.invariant states g h)

pub returns : goal.returns
returns c = λ states g h. c.loop-round.invariant states g h
