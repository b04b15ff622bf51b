use Rattle.std.proofs.Common.{sym, subst}
use Rattle.jr_defs.specs.Overriding.{Has}
use Rattle.jr_supers.specs.Supers.{ListsOnce}
use Rattle.jr_run.specs.Starting.{rows_in, table_in}
use Rattle.jr_run.proofs.start.start_in.Goals as goal

pub returns : goal.returns
returns c = λ read. c.first_start.ensures read (subst (λ xs. ListsOnce xs (Has (rows_in c.args.world.now) (table_in c.args.world.now) c.args.class)) (sym c.deref.ensures.value) (c.in_ok-methods.ensures read))
