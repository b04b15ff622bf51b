use Rattle.std.proofs.Common.{◌≡◌, ◌++◌, length}
use Rattle.jr_commit.specs.Differences.{changes}
use Rattle.jr_commit.specs.Entries.{plain}
use Rattle.jr_commit.specs.Journal.{entries_text, new_sides}
use Rattle.jr_commit.specs.Steps.{sides_of}
use Rattle.jr_commit.specs.Undoing.{pairs_back}
use Rattle.jr_commit.specs.declared.entry.Version.TheVariants.{Two}
use Rattle.jr_commit.proofs.undo.change_back.Given as goal

abbrev pub invariant-loop-rest : goal.invariant-loop-rest
invariant-loop-rest l =
    let all = changes (pairs_back (plain l.entries)) in
    let rest = changes (pairs_back (plain l.rest)) in
    record {
      text : l.text.items ++ entries_text Two rest ≡ entries_text Two all;
      steps : sides_of l.steps.items ++ new_sides rest ≡ new_sides all;
    }

abbrev pub decreases-loop-rest : goal.decreases-loop-rest
decreases-loop-rest l = length l.rest
