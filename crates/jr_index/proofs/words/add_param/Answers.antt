use Rattle.jr_index.proofs.Adding.{adds_two, node}
use Rattle.jr_index.proofs.words.add_param.Goals as goal

pub returns : goal.returns
returns c = node c.open.ensures (adds_two (adds_two c.pass_if.ensures c.add_type.ensures) (adds_two c.own.ensures c.pass_brackets.ensures)) c.close.ensures
