use Rattle.std.proofs.Common.{◌≡◌, ◌++◌, drop}
use Rattle.jr_tree.specs.Mirror.Stmts as m
use Rattle.jr_tree.specs.Tokens as e
use Rattle.jr_write.proofs.stmt.write_declarators.Given as goal

abbrev pub invariant-loop-decl : goal.invariant-loop-decl
invariant-loop-decl l = l.out.items ++ e.after_declarator (m.plain_declarators (drop l.decl-index l.rest)) ≡ l.initial.out.items ++ e.after_declarator (m.plain_declarators l.rest)
