use Rattle.std.proofs.Common.{◌∙◌, ap}
use Rattle.jr_lookup.specs.Scopes.{first_before}
use Rattle.jr_lookup.proofs.Scoping.{last_local}
use Rattle.jr_lookup.proofs.scopes.Scopes.local.Goals as goal

pub returns : goal.returns
returns c = λ p is. c.first_before.ensures ∙ ap (first_before c.args.place) (c.deref.ensures.value ∙ c.in_ok-rows.ensures) ∙ last_local p c.args.self.now is c.args.block c.args.name c.args.place
