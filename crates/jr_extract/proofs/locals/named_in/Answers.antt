use Rattle.jr_defs.specs.Referents.{entries}
use Rattle.jr_extract.proofs.Found.{named_lists, sorted_lists}
use Rattle.jr_extract.specs.Handing.{IsNamedIn}
use Rattle.jr_extract.proofs.locals.named_in.Goals as goal

pub returns : goal.returns
returns c = sorted_lists (IsNamedIn c.args.under.now.rows.now (entries c.args.under.now.table.now) c.args.run) c.in_ok-all.all.items _ _
    (named_lists c.args.under.now.rows.now (entries c.args.under.now.table.now) c.args.run _ c.in_ok-all.ensures) c.deref_mut.ensures.value c.in_ok-out.ensures
