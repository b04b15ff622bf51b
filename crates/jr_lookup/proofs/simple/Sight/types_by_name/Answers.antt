use Rattle.std.proofs.Common.{◌≡◌, refl, sym, ◌∙◌, ap, arith, length, nat_eq}
use Rattle.std.proofs.lemmas.Bool.{false≢true}
use Rattle.std.proofs.lemmas.Bool.Decides.{Decides-eqb}
use Rattle.jr_plain.proofs.Headed.{headed_from_local}
use Rattle.jr_lookup.proofs.Visibility.{types_inner, no_member, types_outer}
use Rattle.jr_lookup.proofs.simple.Sight.types_by_name.Goals as goal

pub returns-then-not-is_empty : goal.returns-then-not-is_empty
returns-then-not-is_empty c = λ t x sight number. let p = c.args.self.now.world.under.rows.now in
    types_inner p (headed_from_local p sight.world.seen.placed.local) t x c.args.name c.args.place number c.in_ok-members.members.rows.items _ (c.in_ok-members.ensures t sight.world)
    (λ e. let same : c.in_ok-members.members.rows.len ≡ length c.in_ok-members.members.rows.items = omega (arith, c.in_ok-members.members.rows.ok.0) in
    false≢true (sym c.if-not-is_empty.true ∙ c.is_empty.ensures ∙ ap (λ n. nat_eq n 0) same ∙ (Decides-eqb (length c.in_ok-members.members.rows.items) 0).1 e))

pub returns : goal.returns
returns c = λ t x sight number. let p = c.args.self.now.world.under.rows.now in let headed = headed_from_local p sight.world.seen.placed.local in
    let none = (Decides-eqb c.in_ok-members.members.rows.len 0).0 (sym c.is_empty.ensures ∙ c.if-not-is_empty.false) in
    let empty : length c.in_ok-members.members.rows.items ≡ 0 = omega (arith, c.in_ok-members.members.rows.ok.0) in
    types_outer p headed t x c.args.name c.args.place number (no_member p headed t x c.args.name c.args.place number c.in_ok-members.members.rows.items c.in_ok-members.members.level (c.in_ok-members.ensures t sight.world) empty)
    _ _ (c.in_ok-rows.ensures t sight) refl
