use Rattle.std.proofs.Common.{rules, ap}
use Rattle.jr_tree.specs.declared.tree.Member.TheFolds.{the_lemmas}
use Rattle.jr_tree.specs.Mirror.Decls as d
use Rattle.jr_index.specs.Events as e
use Rattle.jr_index.proofs.Adding.{goes_on, adds_two, node, are, rest_is}
use Rattle.jr_index.proofs.decl.+add_decl.Goals as goal

pub add_decl-returns-in-Class : goal.add_decl-returns-in-Class
add_decl-returns-in-Class n c = are (node c.open.ensures (adds_two (adds_two (adds_two c.pass.ensures (adds_two c.pass-in-Class.ensures (adds_two c.declare.ensures c.add_superclass.ensures))) c.add_type_names.ensures) c.add_body.ensures) c.close.ensures) (search (rules, the_lemmas))

pub add_decl-returns-in-Interface : goal.add_decl-returns-in-Interface
add_decl-returns-in-Interface n c = are (node c.open-in-Interface.ensures (adds_two (adds_two c.pass-in-Interface.ensures (adds_two c.pass-in-Interface-2.ensures (adds_two c.declare-in-Interface.ensures c.add_type_names-in-Interface.ensures))) c.add_body-in-Interface.ensures) c.close-in-Interface.ensures) (search (rules, the_lemmas))

pub add_decl-returns-in-Empty : goal.add_decl-returns-in-Empty
add_decl-returns-in-Empty n c = are c.leaf.ensures (search (rules, the_lemmas))

pub add_body-returns : goal.add_body-returns
add_body-returns n c = are (node c.begin.ensures (adds_two (adds_two (adds_two c.pass.ensures c.add_default_constructor.ensures) c.add_members.ensures) c.pass-2.ensures) c.close.ensures) (search (rules, the_lemmas))

pub add_members-loop-member-preserved : goal.add_members-loop-member-preserved
add_members-loop-member-preserved n c = goes_on c.loop-member.invariant (ap (λ xs. e.members_events (d.plain_members xs)) (rest_is c.args.members.now c.loop-member.member-index c.member-item.result c.loop-member-test.true c.member-item.is)) c.add_member.ensures

pub add_member-returns-in-Field : goal.add_member-returns-in-Field
add_member-returns-in-Field n c = are (node c.begin.ensures (adds_two (adds_two (adds_two c.pass.ensures c.add_type.ensures) c.add_fields.ensures) c.pass-in-Field.ensures) c.close.ensures) (search (rules, the_lemmas))

pub add_member-returns-in-Method : goal.add_member-returns-in-Method
add_member-returns-in-Method n c = are (node c.open.ensures (adds_two (adds_two (adds_two (adds_two c.pass-in-Method.ensures c.add_result.ensures) (adds_two c.own.ensures (adds_two c.pass-in-Method-2.ensures c.add_params.ensures))) (adds_two c.pass-in-Method-3.ensures c.add_type_names.ensures)) c.add_any_block.ensures) c.close-in-Method.ensures) (search (rules, the_lemmas))

pub add_member-returns-in-Constructor : goal.add_member-returns-in-Constructor
add_member-returns-in-Constructor n c = are (node c.open-in-Constructor.ensures (adds_two (adds_two (adds_two (adds_two c.pass-in-Constructor.ensures (adds_two c.declare.ensures c.add_implicit_call.ensures)) (adds_two c.pass-in-Constructor-2.ensures c.add_params-in-Constructor.ensures)) (adds_two c.pass-in-Constructor-3.ensures c.add_type_names-in-Constructor.ensures)) c.add_block.ensures) c.close-in-Constructor.ensures) (search (rules, the_lemmas))

pub add_member-returns-in-Init : goal.add_member-returns-in-Init
add_member-returns-in-Init n c = are (node c.begin-in-Init.ensures (adds_two c.pass_if.ensures c.add_block-in-Init.ensures) c.close-in-Init.ensures) (search (rules, the_lemmas))

pub add_member-returns-in-Nested : goal.add_member-returns-in-Nested
add_member-returns-in-Nested n c = are c.add_decl.ensures (search (rules, the_lemmas))
