use Rattle.std.proofs.Common.{◌≡◌, ◌+◌, ◌++◌, length}
use Rattle.std.specs.List.{AllByRecursion}
use Rattle.jr_base.specs.Files.{plain}
use Rattle.jr_base.specs.Paths.{IsPath}
use Rattle.jr_commit.specs.Steps.{sides_of}
use Rattle.jr_commit.specs.Journal.{entries_text, new_sides}
use Rattle.jr_commit.specs.Differences.{pairs, changes}
use Rattle.jr_commit.specs.declared.entry.Version.TheVariants.{Two}
use Rattle.jr_commit.proofs.differences.differences_of.Given as goal

abbrev pub invariant-loop-pair : goal.invariant-loop-pair
invariant-loop-pair l =
    let all = changes (pairs (plain l.olds) (plain l.news)) in
    let rest = changes (pairs (plain l.old_rest) (plain l.new_rest)) in
    record {
      text : l.text.items ++ entries_text Two rest ≡ entries_text Two all;
      steps : sides_of l.steps.items ++ new_sides rest ≡ new_sides all;
      paths : AllByRecursion (λ e. IsPath e.0) rest → AllByRecursion (λ e. IsPath e.0) all;
    }

abbrev pub decreases-loop-pair : goal.decreases-loop-pair
decreases-loop-pair l = length l.old_rest + length l.new_rest
