use Rattle.std.proofs.Common.{◌≡◌, ◌++◌, map, drop}
use Rattle.jr_base.specs.declared.kind.Symbol.TheVariants as y
use Rattle.jr_tree.specs.Words as t
use Rattle.jr_write.proofs.words.write_name.Given as goal

abbrev pub invariant-loop-part : goal.invariant-loop-part
invariant-loop-part l = l.out.items ++ t.after_each y.Dot (map t.ident (drop l.part-index l.rest)) ≡ l.initial.out.items ++ t.after_each y.Dot (map t.ident l.rest)
