use Rattle.std.proofs.Common.{◌≡◌, ◌++◌, drop}
use Rattle.jr_tree.specs.Mirror.Decls as m
use Rattle.jr_tree.specs.Tokens as e
use Rattle.jr_write.proofs.decl.write_decls.Given as goal

abbrev pub invariant-loop-decl : goal.invariant-loop-decl
invariant-loop-decl l = l.out.items ++ e.decls_tokens (m.plain_decls (drop l.decl-index l.decls)) ≡ l.initial.out.items ++ e.decls_tokens (m.plain_decls l.decls)
