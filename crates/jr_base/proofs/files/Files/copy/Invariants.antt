use Rattle.std.proofs.Common.{◌≡◌, take}
use Rattle.jr_base.specs.Files.{plain}
use Rattle.jr_base.proofs.files.Files.copy.Given as goal

abbrev pub invariant-loop-path : goal.invariant-loop-path
invariant-loop-path l = plain l.entries.items ≡ plain (take l.path-index l.path-items)
