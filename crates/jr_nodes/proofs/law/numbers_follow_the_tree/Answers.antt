-- The law's clauses are the lemmas of `Follow`.
use Rattle.jr_nodes.proofs.Follow as follow
use Rattle.jr_nodes.proofs.law.numbers_follow_the_tree.Goals as goal

pub returns-clause-preorder : goal.returns-clause-preorder
returns-clause-preorder c = follow.in_preorder

pub returns-clause-sizes : goal.returns-clause-sizes
returns-clause-sizes c = follow.sizes

pub returns-clause-first : goal.returns-clause-first
returns-clause-first c = follow.first

pub returns-clause-found : goal.returns-clause-found
returns-clause-found c = follow.found

pub returns-clause-child : goal.returns-clause-child
returns-clause-child c = follow.child
