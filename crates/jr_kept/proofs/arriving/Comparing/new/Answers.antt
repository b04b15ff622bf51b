use Rattle.jr_kept.proofs.arriving.Comparing.new.Goals as goal

pub returns : goal.returns
returns c = (record { counted = c.in_ok-known.ensures.counted; gathers = c.in_ok-gathering.ensures }, c.in_ok-done.ensures)
