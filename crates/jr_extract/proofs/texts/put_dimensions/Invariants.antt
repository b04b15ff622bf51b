use Rattle.std.proofs.Common.{◌≡◌, ◌++◌}
use Rattle.jr_weave.specs.Wording.{brackets}
use Rattle.jr_extract.proofs.texts.put_dimensions.Given as goal

abbrev pub invariant-loop-pair : goal.invariant-loop-pair
invariant-loop-pair l = l.text.items ≡ l.fn.text.items ++ brackets l._pair
