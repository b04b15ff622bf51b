use Rattle.std.proofs.Common.{refl}
use Rattle.jr_names.proofs.Paths.{no_source}
use Rattle.jr_names.proofs.units.folder_of.Goals as goal

pub returns-in-None-clause-none : goal.returns-in-None-clause-none
returns-in-None-clause-none c = λ _. no_source c.args.path.now c.args.name.now (c.in-None.ensures.none refl)
