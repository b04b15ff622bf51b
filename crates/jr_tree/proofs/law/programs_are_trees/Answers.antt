use Rattle.jr_tree.proofs.Trees.{each_program_is_tree}
use Rattle.jr_tree.proofs.law.programs_are_trees.Goals as goal

pub returns : goal.returns
returns c = each_program_is_tree
