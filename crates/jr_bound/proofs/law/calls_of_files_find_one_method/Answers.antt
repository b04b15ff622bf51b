use Rattle.std.specs.Prelude.{map}
use Rattle.jr_defs.specs.declared.program.UnitAt.{UnitAt}
use Rattle.jr_defs.specs.Program.{rows_of}
use Rattle.jr_defs.proofs.OneMethod.{one_method}
use Rattle.jr_one_method.proofs.OfRows.{one_superclass}
use Rattle.jr_prelude.proofs.Programs.{all_shaped}
use Rattle.jr_prelude.proofs.Readings.{programs_begin}
use Rattle.jr_bound.proofs.Joined.{one_prelude}
use Rattle.jr_bound.proofs.law.calls_of_files_find_one_method.Goals as goal

pub returns : goal.returns
returns c found program h t k m f g x y = one_method (rows_of program) t
    (record { name = one_superclass (map (λ (u : UnitAt). u.unit) program.units) (all_shaped h); object = (one_prelude (rows_of program) (programs_begin found program h)).one_object }) k m f g x y
