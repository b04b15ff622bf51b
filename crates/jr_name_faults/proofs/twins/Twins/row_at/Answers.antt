use Rattle.std.proofs.Common.{sym, ◌∙◌}
use Rattle.jr_name_faults.proofs.Twinned.{entry_none}
use Rattle.jr_name_faults.proofs.twins.Twins.row_at.Goals as goal

pub returns-in-None : goal.returns-in-None
returns-in-None c = entry_none _ c.args.place (sym c.in-None.is ∙ c.entry.ensures)
