use Rattle.std.proofs.Common.{subst}
use Rattle.jr_names.specs.Renaming.{IsFileOf}
use Rattle.jr_names.proofs.Paths.{along_path}
use Rattle.jr_names.proofs.units.path_along.Goals as goal

pub returns-in-Some : goal.returns-in-Some
returns-in-Some c = along_path c.args.marks.now c.args.declared c.args.to.now c.in-Some.folder.now c.args.path c.name_at.result.now c.path_in.result c.name_at.ensures
    (subst (λ xs. IsFileOf xs c.in-Some.folder.now c.name_at.result.now) c.bytes.ensures c.in-Some.ensures.some) c.path_in.ensures
