use Rattle.std.proofs.Common.{◌≡◌, ◌++◌, drop}
use Rattle.jr_tree.specs.Words as t
use Rattle.jr_write.proofs.words.write_modifiers.Given as goal

abbrev pub invariant-loop-modifier : goal.invariant-loop-modifier
invariant-loop-modifier l = l.out.items ++ t.modifiers_tokens (drop l.modifier-index l.mods) ≡ l.initial.out.items ++ t.modifiers_tokens l.mods
