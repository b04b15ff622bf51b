use Rattle.std.proofs.Common.{◌∙◌, sym, ap}
use Rattle.jr_places.specs.declared.chains.Entry.{Entry}
use Rattle.jr_bind.proofs.LeftOut.{no_entry}
use Rattle.jr_bind.proofs.rounds.row_at.Goals as goal

pub returns-in-None : goal.returns-in-None
returns-in-None c = sym (ap (λ (e : Entry). e.row) (no_entry c.args.edges.now c.args.place (sym c.entry.ensures ∙ c.in-None.is)))
