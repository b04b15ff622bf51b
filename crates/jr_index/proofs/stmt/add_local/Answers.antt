use Rattle.jr_index.proofs.Adding.{adds_two, node}
use Rattle.jr_index.proofs.stmt.add_local.Goals as goal

pub returns : goal.returns
returns c = node c.open.ensures (adds_two c.own.ensures (adds_two c.pass_brackets.ensures c.add_any_init.ensures)) c.close.ensures
