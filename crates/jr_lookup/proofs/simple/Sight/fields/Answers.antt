use Rattle.std.proofs.Common.{◌≡◌, refl, sym, ◌∙◌, ap, arith, length, nat_eq}
use Rattle.std.proofs.lemmas.Bool.{false≢true}
use Rattle.std.proofs.lemmas.Bool.Decides.{Decides-eqb}
use Rattle.jr_plain.proofs.Headed.{headed_from_local}
use Rattle.jr_lookup.proofs.Shadowing.{fields_around, fields_far, far_none}
use Rattle.jr_lookup.proofs.simple.Sight.fields.Goals as goal

pub returns-then-not-is_empty-clause-around : goal.returns-then-not-is_empty-clause-around
returns-then-not-is_empty-clause-around c = λ t world. fields_around c.args.self.now.world.under.rows.now t c.args.place c.args.name c.in_ok-members.members.rows.items _ (c.in_ok-members.ensures t world)
    (λ e. let same : c.in_ok-members.members.rows.len ≡ length c.in_ok-members.members.rows.items = omega (arith, c.in_ok-members.members.rows.ok.0) in
    false≢true (sym c.if-not-is_empty.true ∙ c.is_empty.ensures ∙ ap (λ n. nat_eq n 0) same ∙ (Decides-eqb (length c.in_ok-members.members.rows.items) 0).1 e))

pub returns-clause-around : goal.returns-clause-around
returns-clause-around c = λ t world. let p = c.args.self.now.world.under.rows.now in
    let none = (Decides-eqb c.in_ok-members.members.rows.len 0).0 (sym c.is_empty.ensures ∙ c.if-not-is_empty.false) in
    let empty : length c.in_ok-members.members.rows.items ≡ 0 = omega (arith, c.in_ok-members.members.rows.ok.0) in
    fields_far p t (headed_from_local p world.seen.placed.local) c.args.place c.args.name c.in_ok-members.members.rows.items _ c.in_ok-members.members.level _ (c.in_ok-members.ensures t world) empty

pub returns-then-not-is_empty-clause-far : goal.returns-then-not-is_empty-clause-far
returns-then-not-is_empty-clause-far c = λ t sight. let p = c.args.self.now.world.under.rows.now in
    far_none p t (headed_from_local p sight.world.seen.placed.local) c.args.place c.args.name c.in_ok-members.members.rows.items _ (c.in_ok-members.ensures t sight.world)
    (λ e. let same : c.in_ok-members.members.rows.len ≡ length c.in_ok-members.members.rows.items = omega (arith, c.in_ok-members.members.rows.ok.0) in
    false≢true (sym c.if-not-is_empty.true ∙ c.is_empty.ensures ∙ ap (λ n. nat_eq n 0) same ∙ (Decides-eqb (length c.in_ok-members.members.rows.items) 0).1 e))

pub returns-clause-far : goal.returns-clause-far
returns-clause-far c = λ t sight. record { are = λ out. (c.in_ok-rows.ensures t sight, refl) }
