use Rattle.std.proofs.Common.{rules, ◌++◌, ◌∷◌, [], length, sym, ap, subst, arith}
use Rattle.std.proofs.lemmas.Grind.{common_steps}
use Rattle.jr_read.specs.Reading.{AreTrees, no_trees}
use Rattle.jr_read.proofs.Readings.{trees_more, trees_count}
use Rattle.jr_read.proofs.program.parse_all.Goals as goal

pub loop-one-init : goal.loop-one-init
loop-one-init c = record {
  split = search rules;
  trees = subst (AreTrees []) (sym c.new-units.ensures) no_trees;
  count = ap length c.new-units.ensures;
}

pub loop-one-preserved : goal.loop-one-preserved
loop-one-preserved c =
    let trees : AreTrees (c.loop-one.yielded ++ c.in-Some.one ∷ []) c.push.new.self = subst (AreTrees (c.loop-one.yielded ++ c.in-Some.one ∷ [])) (sym c.in_ok-push-in-Ok.ensures.ok) (trees_more c.loop-one.invariant.trees c.in-Ok.ensures.ok) in
    record {
      split = grind (arith, common_steps);
      trees = trees;
      count = trees_count trees;
    }
