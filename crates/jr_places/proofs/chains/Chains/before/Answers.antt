use Rattle.std.proofs.Common.{arith, ◌∙◌, ap, length}
use Rattle.jr_places.specs.Chains.{last_like}
use Rattle.jr_places.proofs.Tables.{linked_at, length_linked}
use Rattle.jr_places.proofs.chains.Chains.before.Goals as goal

pub index-requires : goal.index-requires
index-requires c = omega (arith, length_linked c.self.inside.entries.items c.self.inside.last c.self.inside.before.items c.self.invariant, ap length c.self.view_is)

pub returns : goal.returns
returns c = c.index.ensures ∙ linked_at c.self.inside.entries.items c.self.inside.last c.self.inside.before.items c.args.at c.index.result.now c.self.invariant (omega (arith, ap length c.self.view_is)) ∙ ap (λ all. last_like all c.args.at) c.self.view_is
