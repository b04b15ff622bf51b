use Rattle.jr_spell.proofs.Packed.{none_known}
use Rattle.jr_spell.proofs.paths.Paths.new.Goals as goal

pub returns : goal.returns
returns c = none_known (record { rows = c.new.result }) search
