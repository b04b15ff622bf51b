use Rattle.jr_places.proofs.Numbered.{none_counted}
use Rattle.jr_places.proofs.numbering.Numbering.new.Goals as goal

pub returns : goal.returns
returns c = none_counted (record { steps = c.new.result; count = 0 }) search
