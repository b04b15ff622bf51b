use Rattle.std.proofs.Common.{rules}
use Rattle.jr_index.proofs.Adding.{adds_two, node, are}
use Rattle.jr_index.proofs.decl.add_field.Goals as goal

pub returns : goal.returns
returns c = are (node c.open.ensures (adds_two c.own.ensures (adds_two c.pass_brackets.ensures c.add_any_init.ensures)) c.close.ensures) (search rules)
