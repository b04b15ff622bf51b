use Rattle.std.proofs.Common.{arith}
use Rattle.std.proofs.lemmas.List.{drop_all}
use Rattle.jr_members.specs.Named.{carries}
use Rattle.jr_members.proofs.Each.{filter_end}
use Rattle.jr_members.proofs.named.carried.Goals as goal

pub returns : goal.returns
returns c = λ placed. filter_end (carries c.args.under.rows.now c.args.way) c.args.all.now _ c.loop-at.found.items (drop_all c.loop-at.at-index c.args.all.now (omega arith)) (c.loop-at.invariant placed)
