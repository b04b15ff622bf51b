use Rattle.jr_index.proofs.Adding.{adds_two, node}
use Rattle.jr_index.proofs.words.add_import.Goals as goal

pub returns-in-Single : goal.returns-in-Single
returns-in-Single c = rw c.in-Single.is (node c.begin.ensures (adds_two (adds_two c.pass.ensures c.add_type_name.ensures) c.pass-in-Single.ensures) c.close.ensures)

pub returns-in-OnDemand : goal.returns-in-OnDemand
returns-in-OnDemand c = rw c.in-OnDemand.is (node c.begin-in-OnDemand.ensures (adds_two (adds_two c.pass-in-OnDemand.ensures c.add_name.ensures) c.pass-in-OnDemand-2.ensures) c.close-in-OnDemand.ensures)

pub returns-in-StaticSingle : goal.returns-in-StaticSingle
returns-in-StaticSingle c = rw c.in-StaticSingle.is (node c.open.ensures (adds_two (adds_two c.pass-in-StaticSingle.ensures c.add_type_name-in-StaticSingle.ensures) (adds_two c.pass-in-StaticSingle-2.ensures (adds_two c.own.ensures c.pass-in-StaticSingle-3.ensures))) c.close-in-StaticSingle.ensures)
