use Rattle.std.proofs.Common.{subst}
use Rattle.jr_dispatch.specs.Overridden.{overrides_directly, Divides}
use Rattle.jr_dispatch.proofs.dispatch.Methods.others.Goals as goal

pub returns : goal.returns
returns c = λ t h m rows. subst (λ xs. Divides (overrides_directly c.args.self.under.rows.now t) c.args.method c.args.left.now c.args.met.now.items c.divide.new.met.items xs c.divide.new.rest.items) c.new-rest.ensures.items (c.in_ok-divide.ensures t h m rows)
