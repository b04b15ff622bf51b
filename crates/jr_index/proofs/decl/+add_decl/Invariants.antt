use Rattle.std.proofs.Common.{drop}
use Rattle.jr_tree.specs.Mirror.Decls as d
use Rattle.jr_index.specs.Events as e
use Rattle.jr_index.specs.Writing.{written, Leads}
use Rattle.jr_index.proofs.decl.+add_decl.Given as goal

abbrev pub invariant-add_members-loop-member : goal.invariant-add_members-loop-member
invariant-add_members-loop-member l = Leads (written l.initial.out) (written l.out) (e.members_events (d.plain_members (drop l.member-index l.members))) (e.members_events (d.plain_members (l.members)))
