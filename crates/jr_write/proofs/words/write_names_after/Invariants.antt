use Rattle.std.proofs.Common.{◌≡◌, ◌++◌, map, drop}
use Rattle.jr_base.specs.declared.kind.Symbol.TheVariants as y
use Rattle.jr_tree.specs.Words as t
use Rattle.jr_write.proofs.words.write_names_after.Given as goal

abbrev pub invariant-loop-name : goal.invariant-loop-name
invariant-loop-name l = l.out.items ++ t.after_each y.Comma (map t.name_tokens (drop l.name-index l.rest)) ≡ l.initial.out.items ++ t.after_each y.Comma (map t.name_tokens l.rest)
