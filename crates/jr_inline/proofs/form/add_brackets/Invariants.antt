use Rattle.std.proofs.Common.{◌≡◌, ◌++◌}
use Rattle.jr_weave.specs.Wording.{brackets}
use Rattle.jr_inline.proofs.form.add_brackets.Given as goal

abbrev pub invariant-loop-pair : goal.invariant-loop-pair
invariant-loop-pair l = l.out.items ≡ l.fn.out.items ++ brackets l._pair
