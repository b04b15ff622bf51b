-- Each view has a way back.
use Rattle.jr_tree.specs.Mirror.Exprs as x
use Rattle.jr_tree.specs.Mirror.Stmts as s
use Rattle.jr_tree.specs.Mirror.Decls as d
use Rattle.jr_tree.proofs.Same.Faithful.{one_to_one, onto}
use Rattle.jr_tree.proofs.Same.Exprs as xs
use Rattle.jr_tree.proofs.Same.Stmts as ss
use Rattle.jr_tree.proofs.Same.Decls as ds
use Rattle.jr_tree.proofs.law.plain_data_is_faithful.Goals as goal

pub returns-clause-one_expr : goal.returns-clause-one_expr
returns-clause-one_expr c = one_to_one x.plain_expr xs.tree_expr xs.tree_plain_expr

pub returns-clause-every_expr : goal.returns-clause-every_expr
returns-clause-every_expr c = onto x.plain_expr xs.tree_expr xs.plain_tree_expr

pub returns-clause-one_stmt : goal.returns-clause-one_stmt
returns-clause-one_stmt c = one_to_one s.plain_stmt ss.tree_stmt ss.tree_plain_stmt

pub returns-clause-every_stmt : goal.returns-clause-every_stmt
returns-clause-every_stmt c = onto s.plain_stmt ss.tree_stmt ss.plain_tree_stmt

pub returns-clause-one_member : goal.returns-clause-one_member
returns-clause-one_member c = one_to_one d.plain_member ds.tree_member ds.tree_plain_member

pub returns-clause-every_member : goal.returns-clause-every_member
returns-clause-every_member c = onto d.plain_member ds.tree_member ds.plain_tree_member

pub returns-clause-one_decl : goal.returns-clause-one_decl
returns-clause-one_decl c = one_to_one d.plain_decl ds.tree_decl ds.tree_plain_decl

pub returns-clause-every_decl : goal.returns-clause-every_decl
returns-clause-every_decl c = onto d.plain_decl ds.tree_decl ds.plain_tree_decl

pub returns-clause-one_unit : goal.returns-clause-one_unit
returns-clause-one_unit c = one_to_one d.plain_unit ds.tree_unit ds.tree_plain_unit

pub returns-clause-every_unit : goal.returns-clause-every_unit
returns-clause-every_unit c = onto d.plain_unit ds.tree_unit ds.plain_tree_unit
