use Rattle.jr_kept.proofs.Uses.{no_originals}
use Rattle.jr_kept.proofs.gathering.Originals.empty.Goals as goal

pub returns : goal.returns
returns c = λ bound h. (no_originals (record { met = c.empty.new.self; all = c.clear.new.self }) bound (c.in_ok-empty.ensures bound h.counted) c.clear.ensures.items, c.clear.ensures.items)
