use Rattle.std.proofs.Common.{rules}
use Rattle.jr_index.proofs.Adding.{adds_two, node, are}
use Rattle.jr_index.proofs.decl.add_unit.Goals as goal

pub returns : goal.returns
returns c = are (adds_two c.restart.ensures (node c.begin.ensures (adds_two (adds_two c.add_package.ensures c.add_imports.ensures) c.add_decls.ensures) c.close.ensures)) (search rules)
