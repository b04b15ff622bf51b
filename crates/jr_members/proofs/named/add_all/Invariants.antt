use Rattle.std.proofs.Common.{◌≡◌, ◌++◌, drop}
use Rattle.jr_members.specs.Named.{entries_for}
use Rattle.jr_members.proofs.named.add_all.Given as goal

abbrev pub invariant-loop-at : goal.invariant-loop-at
invariant-loop-at l = l.lists ++ entries_for l.over l.name (drop l.at-index l.all) ≡ l.fn.lists ++ entries_for l.over l.name l.all
