use Rattle.jr_index.proofs.Adding.{adds_two, node}
use Rattle.jr_index.proofs.words.add_package.Goals as goal

pub returns-in-Some : goal.returns-in-Some
returns-in-Some c = rw c.in-Some.is (node c.begin.ensures (adds_two (adds_two c.pass.ensures c.add_name.ensures) c.pass-in-Some.ensures) c.close.ensures)
