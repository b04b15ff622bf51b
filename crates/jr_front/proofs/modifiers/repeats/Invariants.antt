use Rattle.std.proofs.Common.{◌≡◌, [], drop}
use Rattle.jr_tree.specs.Decls.{modifiers_of}
use Rattle.jr_front.specs.Modifiers.{leading, repeats}
use Rattle.jr_front.proofs.modifiers.repeats.Given as goal

abbrev pub invariant-loop-at : goal.invariant-loop-at
invariant-loop-at l = repeats l.seen (leading (drop l.at l.fn.tokens)) ≡ repeats (modifiers_of []) (leading (drop l.fn.first l.fn.tokens))
