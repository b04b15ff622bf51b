-- Each view has a way back.
use Rattle.jr_base.proofs.Same.{one_to_one, onto}
use Rattle.jr_core.specs.Mirror.{plain_code, plain_core}
use Rattle.jr_core.proofs.Same.{tree_code, plain_tree_code, tree_plain_code, tree_core, plain_tree_core, tree_plain_core}
use Rattle.jr_core.proofs.law.plain_codes_are_faithful.Goals as goal

pub returns-clause-one_code : goal.returns-clause-one_code
returns-clause-one_code c = one_to_one plain_code tree_code tree_plain_code

pub returns-clause-every_code : goal.returns-clause-every_code
returns-clause-every_code c = onto plain_code tree_code plain_tree_code

pub returns-clause-one_core : goal.returns-clause-one_core
returns-clause-one_core c = one_to_one plain_core tree_core tree_plain_core

pub returns-clause-every_core : goal.returns-clause-every_core
returns-clause-every_core c = onto plain_core tree_core plain_tree_core
