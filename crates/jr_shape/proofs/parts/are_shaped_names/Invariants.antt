use Rattle.std.proofs.Common.{◌≡◌, ◌&&◌, drop}
use Rattle.std.specs.List.{list_all}
use Rattle.jr_shape.specs.Parts as t
use Rattle.jr_shape.proofs.parts.are_shaped_names.Given as goal

abbrev pub invariant-loop-name : goal.invariant-loop-name
invariant-loop-name l = (l.shaped && list_all t.is_shaped_name (drop l.name-index l.names)) ≡ list_all t.is_shaped_name l.names
