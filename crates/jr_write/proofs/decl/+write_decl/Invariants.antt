use Rattle.std.proofs.Common.{◌≡◌, ◌++◌, drop}
use Rattle.jr_tree.specs.Mirror.Decls as m
use Rattle.jr_tree.specs.Tokens as e
use Rattle.jr_write.proofs.decl.+write_decl.Given as goal

abbrev pub invariant-write_members-loop-member : goal.invariant-write_members-loop-member
invariant-write_members-loop-member l = l.out.items ++ e.members_tokens (m.plain_members (drop l.member-index l.members)) ≡ l.initial.out.items ++ e.members_tokens (m.plain_members l.members)
