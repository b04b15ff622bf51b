use Rattle.std.proofs.Common.{◌≡◌, sym, ◌∙◌, ap, subst, refl, arith, length, not, nat_eq}
use Rattle.std.proofs.lemmas.Bool.{false≢true}
use Rattle.std.proofs.lemmas.Bool.Decides.{Decides-eqb}
use Rattle.jr_tree.specs.Rows.{name}
use Rattle.jr_defs.specs.Referents.{entries}
use Rattle.jr_headers.proofs.HeaderRows.{headed}
use Rattle.jr_lookup.specs.Outward.{IsNumberOf}
use Rattle.jr_lookup.proofs.Looking.{number_of}
use Rattle.jr_lookup.proofs.Sighting.{lists_none}
use Rattle.jr_bind.proofs.Looking.{looked_for_nowhere, looked_for, ok_map, full, empty}
use Rattle.jr_bind.proofs.meeting.looked_for_in.Goals as goal

pub returns-then-not-is_empty : goal.returns-then-not-is_empty
returns-then-not-is_empty c = λ whole lt. let p = c.args.sight.now.world.under.rows.now in let t = entries c.args.sight.now.world.under.table.now in let world = whole.sight_is.world in
    let number = subst (λ n. IsNumberOf p n (name p c.args.at)) (sym (c.name-name.ensures p world.seen.placed.are lt)) (number_of p c.args.at) in
    let same : c.in_ok-around.around.rows.len ≡ length c.in_ok-around.around.rows.items = omega (arith, c.in_ok-around.around.rows.ok.0) in
    lists_none _ c.new.ensures.items (looked_for_nowhere p world.seen.placed.local (headed p whole.formed) t c.name-name.result c.args.at number c.in_ok-around.around.rows.items c.in_ok-around.around.level (c.in_ok-around.ensures t world)
    (λ e. false≢true (sym c.if-not-is_empty.true ∙ c.is_empty.ensures ∙ ap (λ n. nat_eq n 0) same ∙ (Decides-eqb (length c.in_ok-around.around.rows.items) 0).1 e)))

pub returns-in-Some : goal.returns-in-Some
returns-in-Some c = λ whole lt. let p = c.args.sight.now.world.under.rows.now in let t = entries c.args.sight.now.world.under.table.now in let world = whole.sight_is.world in
    let number = subst (λ n. IsNumberOf p n (name p c.args.at)) (sym (c.name-name.ensures p world.seen.placed.are lt)) (number_of p c.args.at) in
    let none = (Decides-eqb c.in_ok-around.around.rows.len 0).0 (sym c.is_empty.ensures ∙ c.if-not-is_empty.false) in
    let bare : length c.in_ok-around.around.rows.items ≡ 0 = omega (arith, c.in_ok-around.around.rows.ok.0) in
    let far : c.in_ok-named-in-Some.named.rows.len ≡ length c.in_ok-named-in-Some.named.rows.items = omega (arith, c.in_ok-named-in-Some.named.rows.ok.0) in
    ok_map c.imports_of.result _ _ (λ all h. looked_for p world.seen.placed.local (headed p whole.formed) t c.name-name.result c.args.at number c.in-Some.unit ((c.in-Some.ensures world.seen.placed c.in-Some.unit).0 refl)
    c.in_ok-around.around.rows.items c.in_ok-around.around.level (c.in_ok-around.ensures t world) bare c.in_ok-named-in-Some.named.rows.items c.in_ok-named-in-Some.named.level (c.in_ok-named-in-Some.ensures t (name p c.args.at) whole.sight_is number)
    (not c.is_empty-in-Some.result) (full _ _ c.is_empty-in-Some.result c.is_empty-in-Some.ensures far) (empty _ _ c.is_empty-in-Some.result c.is_empty-in-Some.ensures far) all.items h) (c.imports_of.ensures p whole.sight_is.scopes)
