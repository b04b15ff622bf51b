use Rattle.std.proofs.Common.{◌≡◌, ◌∙◌, ap, subst, ◌++◌, not, nat_eq, length, arith}
use Rattle.std.proofs.lemmas.Result.{on_ok_weaker}
use Rattle.jr_plain.specs.Search.{Lists}
use Rattle.jr_lookup.specs.Sights.{IsKeptBeside}
use Rattle.jr_lookup.proofs.Sighting.{adds_lists}
use Rattle.jr_lookup.proofs.simple.Sight.add_beside.Goals as goal

pub returns : goal.returns
returns c = λ t sight. let p = c.args.self.now.world.under.rows.now in
    let same : c.args.all.now.len ≡ length c.args.all.now.items = omega (arith, c.args.all.now.ok.0) in
    let told = ap not (c.is_empty-has_imported.ensures ∙ ap (λ n. nat_eq n 0) same) in on_ok_weaker c.add_all.result
    (λ is. adds_lists c.args.all.now.items _ c.in_ok-types.types.items (is ∙ ap (λ xs. c.args.all.now.items ++ xs) c.deref.ensures.value)
    (subst (λ b. Lists c.in_ok-types.types.items (IsKeptBeside p c.args.place c.args.name b)) told (c.in_ok-types.ensures t sight)) (λ d k. k) (λ d k. k)) c.add_all.ensures
