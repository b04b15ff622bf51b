use Rattle.jr_kept.proofs.reached.left_points.Goals as goal

pub returns : goal.returns
returns c = c.in_ok-put_all.ensures (c.new-left.ensures c.args.points.now c.args.met.now)
