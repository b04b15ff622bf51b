use Rattle.std.proofs.Common.{◌≡◌, ◌++◌}
use Rattle.std.specs.List.{AllByRecursion}
use Rattle.jr_commit.specs.Entries.{plain, raw}
use Rattle.jr_commit.specs.Journal.{IsChange}
use Rattle.jr_commit.proofs.reading.all_checked.Given as goal

abbrev pub invariant-loop-entry : goal.invariant-loop-entry
invariant-loop-entry l = record {
  done : plain l.changes.items ≡ raw l.yielded;
  changes : AllByRecursion IsChange (raw l.yielded);
  split : l.fn.entries.items ≡ l.yielded ++ l.entry-iterator.rest.items;
}
