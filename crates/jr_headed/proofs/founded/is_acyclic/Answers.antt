use Rattle.jr_defs.specs.Referents.{entries}
use Rattle.jr_headed.proofs.Founding.{acyclic_told}
use Rattle.jr_headed.proofs.founded.is_acyclic.Goals as goal

pub returns : goal.returns
returns c = λ well bare. acyclic_told c.args.under.rows.now (entries c.args.under.table.now) c.in_ok-supers.supers c.has_no_cycle.result (c.in_ok-supers.ensures.all well)
    (c.has_no_cycle.ensures.none (entries c.args.under.table.now) well (c.in_ok-supers.ensures.direct well)) (λ are none. c.has_no_cycle.ensures.told (entries c.args.under.table.now) are bare none)
