use Rattle.std.proofs.Common.{◌≡◌, ◌≤◌, ◌++◌, drop, length}
use Rattle.jr_base.specs.Files.{plain}
use Rattle.jr_store.specs.Listing.{java_paths}
use Rattle.jr_store.proofs.memory.java_paths.Given as goal

abbrev pub invariant-loop-entry : goal.invariant-loop-entry
invariant-loop-entry l = record { same : l.paths.items ++ java_paths (drop l.entry-index (plain l.entries)) ≡ java_paths (plain l.entries); few : length l.paths.items ≤ l.most }
