use Rattle.jr_defs.specs.Referents.{entries}
use Rattle.jr_headed.proofs.Founding.{not_founded, founded_told}
use Rattle.jr_headed.proofs.founded.is_well_founded.Goals as goal

pub returns-then-not-are_well : goal.returns-then-not-are_well
returns-then-not-are_well c = λ program. not_founded c.args.under.rows.now (entries c.args.under.table.now) c.are_well.result c.are_well.ensures c.if-not-are_well.true

pub returns : goal.returns
returns c = λ program. founded_told c.args.under.rows.now (entries c.args.under.table.now) c.are_well.result c.are_well.ensures c.if-not-are_well.false program c.is_acyclic.result c.is_acyclic.ensures
