use Rattle.jr_bind.proofs.Sighted.{whole}
use Rattle.jr_bind.proofs.cycles.first_with.Goals as goal

pub returns : goal.returns
returns c = λ of well few acyclic supers_are. c.first_under.ensures (whole _ c.in_ok-members.members.value c.in_ok-imports.imports.value c.deref.ensures c.deref-2.ensures of well few acyclic supers_are c.in_ok-members.ensures c.in_ok-imports.ensures)
