use Rattle.std.proofs.Common.{◌≡◌, ◌∙◌, ap, arith, length, nat_eq}
use Rattle.jr_lookup.proofs.Leveling.{has_items}
use Rattle.jr_lookup.proofs.simple.Sight.has_member.Goals as goal

pub returns : goal.returns
returns c = λ t world. has_items c.args.self.now.world.under.rows.now t c.args.kind c.args.name c.args.over c.in_ok-found.found.items c.is_empty.result (c.in_ok-found.ensures t world)
    (let same : c.in_ok-found.found.len ≡ length c.in_ok-found.found.items = omega (arith, c.in_ok-found.found.ok.0) in c.is_empty.ensures ∙ ap (λ n. nat_eq n 0) same)
