use Rattle.jr_kept.proofs.joined.Leaving.of.Goals as goal

pub returns : goal.returns
returns c = record { completing = c.in_ok-plain.ensures; throwing = c.in_ok-thrown.ensures }
