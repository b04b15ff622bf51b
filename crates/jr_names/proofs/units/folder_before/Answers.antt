use Rattle.std.proofs.Common.{refl}
use Rattle.jr_names.proofs.Paths.{no_name}
use Rattle.jr_names.proofs.units.folder_before.Goals as goal

pub returns-in-None-clause-none : goal.returns-in-None-clause-none
returns-in-None-clause-none c = λ _. no_name c.args.path.now c.args.stem.now c.args.name.now c.requires (c.in-None.ensures.none refl)
