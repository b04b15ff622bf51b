use Rattle.std.proofs.Common.{◌≡◌, ◌&&◌, drop}
use Rattle.std.specs.List.{list_all}
use Rattle.jr_shape.specs.Parts as t
use Rattle.jr_shape.proofs.parts.are_shaped_imports.Given as goal

abbrev pub invariant-loop-import : goal.invariant-loop-import
invariant-loop-import l = (l.shaped && list_all t.is_shaped_import (drop l.import-index l.imports)) ≡ list_all t.is_shaped_import l.imports
