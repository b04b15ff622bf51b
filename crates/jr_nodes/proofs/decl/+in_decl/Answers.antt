-- A search over a node's parts is one over them joined; a turn of a loop passes one item.
use Rattle.std.proofs.Common.{◌∙◌, refl, rules, List}
use Rattle.jr_tree.specs.declared.tree.Member.{Member}
use Rattle.jr_tree.specs.declared.tree.Member.TheFolds.{the_lemmas}
use Rattle.jr_tree.specs.Mirror.Decls as d
use Rattle.jr_tree.specs.Nodes as n
use Rattle.jr_nodes.proofs.Passing.{over_two, over_one_more}
use Rattle.jr_nodes.proofs.decl.+in_decl.Goals as goal

pub in_decl-returns-in-Class : goal.in_decl-returns-in-Class
in_decl-returns-in-Class t c = search (rules, the_lemmas, over_two)

pub in_decl-returns-in-Interface : goal.in_decl-returns-in-Interface
in_decl-returns-in-Interface t c = search (rules, the_lemmas, over_two)

pub in_member-returns-in-Method : goal.in_member-returns-in-Method
in_member-returns-in-Method t c = search (rules, the_lemmas, over_two)

pub in_member-returns-in-Constructor : goal.in_member-returns-in-Constructor
in_member-returns-in-Constructor t c = search (rules, the_lemmas, over_two)

pub in_members-loop-member-preserved : goal.in_members-loop-member-preserved
in_members-loop-member-preserved t c =
    over_one_more (λ (items : List Member). n.members_nodes (d.plain_members items)) (λ (item : Member). n.member_nodes (d.plain_member item)) (λ item items. refl)
    c.args.members.now c.loop-member.member-index c.member-item.result c.loop-member-test.true c.member-item.is _ _ c.in_member-state.ensures ∙ c.loop-member.invariant
