use Rattle.std.proofs.Common.{sym, ◌∙◌, ap, Some}
use Rattle.jr_expressions.proofs.Initialized.{wanted_found}
use Rattle.jr_expressions.proofs.arrays.wanted_type.Goals as goal

pub returns : goal.returns
returns c = λ read. wanted_found c.in_ok-found.ensures (c.in_ok-ty.ensures read.sized) ∙ ap Some (sym c.lowered.ensures)
