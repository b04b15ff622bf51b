-- The view has a way back.
use Rattle.jr_base.specs.Mirror.{plain_ty}
use Rattle.jr_base.proofs.Same.{one_to_one, onto, tree_ty, plain_tree_ty, tree_plain_ty}
use Rattle.jr_base.proofs.law.plain_types_are_faithful.Goals as goal

pub returns-clause-one_ty : goal.returns-clause-one_ty
returns-clause-one_ty c = one_to_one plain_ty tree_ty tree_plain_ty

pub returns-clause-every_ty : goal.returns-clause-every_ty
returns-clause-every_ty c = onto plain_ty tree_ty plain_tree_ty
