use Rattle.std.proofs.Common.{◌≡◌, ◌+◌, ◌<◌, ◌^◌, All, [], ◌&&◌, nat_le}
use Rattle.jr_plain.specs.Search.{all_such}
use Rattle.jr_package.specs.Repackaging.{imports_package}
use Rattle.jr_package.proofs.units.Package.imports.Given as goal

abbrev pub invariant-loop-at : goal.invariant-loop-at
invariant-loop-at l = record {
  none : l.fn.head.types < l.fn.head.imports → l.all.items ≡ [];
  such : l.all.items ≡ all_such l.at (λ at. nat_le l.fn.head.imports at && imports_package l.self.marks.now.rows.now l.self.table.now l.self.from.now at);
  within : All (λ at. at + 1 < 2 ^ 32) l.all.items;
}
