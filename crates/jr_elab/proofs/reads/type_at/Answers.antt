use Rattle.std.proofs.Common.{ap}
use Rattle.jr_elab.specs.Cores.{type_of_decl}
use Rattle.jr_elab.proofs.reads.type_at.Goals as goal

pub returns : goal.returns
returns c = ap type_of_decl c.decl.ensures
