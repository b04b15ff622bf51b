use Rattle.std.proofs.Common.{◌≡◌, ◌++◌, map, drop}
use Rattle.jr_base.specs.declared.kind.Symbol.TheVariants as y
use Rattle.jr_tree.specs.Words as t
use Rattle.jr_write.proofs.words.write_param_list.Given as goal

abbrev pub invariant-loop-param : goal.invariant-loop-param
invariant-loop-param l = l.out.items ++ t.after_each y.Comma (map t.param_tokens (drop l.param-index l.rest)) ≡ l.initial.out.items ++ t.after_each y.Comma (map t.param_tokens l.rest)
