use Rattle.std.proofs.Common.{rules}
use Rattle.jr_index.proofs.Adding.{adds_two, node, are}
use Rattle.jr_index.proofs.words.add_type.Goals as goal

pub returns : goal.returns
returns c = are (node c.begin.ensures (adds_two c.add_base.ensures c.pass_brackets.ensures) c.close.ensures) (search rules)
