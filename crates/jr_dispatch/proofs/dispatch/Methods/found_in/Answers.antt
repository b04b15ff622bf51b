use Rattle.std.proofs.Common.{subst, sym}
use Rattle.jr_defs.specs.Overriding.{Has}
use Rattle.jr_supers.specs.Supers.{ListsOnce}
use Rattle.jr_dispatch.proofs.dispatch.Methods.found_in.Goals as goal

pub returns : goal.returns
returns c = λ t h. c.in_ok-all.ensures t h (subst (λ xs. ListsOnce xs (Has c.args.self.under.rows.now t c.args.class)) (sym c.deref.ensures.value) (c.in_ok-methods.ensures t h))
