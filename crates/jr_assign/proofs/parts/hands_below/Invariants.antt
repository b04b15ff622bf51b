use Rattle.std.proofs.Common.{◌≡◌, ◌+◌}
use Rattle.jr_plain.specs.Search.{any_below}
use Rattle.jr_assign.specs.Made.{is_handing}
use Rattle.jr_assign.proofs.parts.hands_below.Given as goal

abbrev pub invariant-loop-inside : goal.invariant-loop-inside
invariant-loop-inside l = l.hands ≡ any_below (l.constructor + l.inside) (is_handing l.rows l.constructor)
