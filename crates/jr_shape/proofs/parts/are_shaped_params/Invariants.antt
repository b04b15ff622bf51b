use Rattle.std.proofs.Common.{◌≡◌, ◌&&◌, drop}
use Rattle.std.specs.List.{list_all}
use Rattle.jr_shape.specs.Parts as t
use Rattle.jr_shape.proofs.parts.are_shaped_params.Given as goal

abbrev pub invariant-loop-param : goal.invariant-loop-param
invariant-loop-param l = (l.shaped && list_all t.is_shaped_param (drop l.param-index l.params)) ≡ list_all t.is_shaped_param l.params
