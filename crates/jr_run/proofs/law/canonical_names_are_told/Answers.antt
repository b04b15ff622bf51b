use Rattle.jr_run.proofs.Canonical.{path_told}
use Rattle.jr_run.proofs.law.canonical_names_are_told.Goals as goal

pub returns : goal.returns
returns c = path_told
