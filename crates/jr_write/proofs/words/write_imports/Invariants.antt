use Rattle.std.proofs.Common.{◌≡◌, ◌++◌, map, drop}
use Rattle.jr_tree.specs.Words as t
use Rattle.jr_write.proofs.words.write_imports.Given as goal

abbrev pub invariant-loop-import : goal.invariant-loop-import
invariant-loop-import l = l.out.items ++ t.joined (map t.import_tokens (drop l.import-index l.imports)) ≡ l.initial.out.items ++ t.joined (map t.import_tokens l.imports)
