use Rattle.jr_flow.proofs.webs.Finder.new.Goals as goal

pub returns : goal.returns
returns c = (record { walls = c.in_ok-walls.ensures.counted; live = c.in_ok-live.ensures; behind = c.in_ok-behind.ensures }, c.new-4.ensures.items)
