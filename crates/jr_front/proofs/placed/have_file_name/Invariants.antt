use Rattle.std.proofs.Common.{drop, ◌↔◌}
use Rattle.jr_tree.specs.Mirror.Decls.{plain_decls}
use Rattle.jr_defs.specs.Program.{HaveFileName}
use Rattle.jr_front.proofs.placed.have_file_name.Given as goal

abbrev pub invariant-loop-declared : goal.invariant-loop-declared
invariant-loop-declared l = HaveFileName l.file (plain_decls l.types) ↔ HaveFileName l.file (plain_decls (drop l.declared-index l.types))
