use Rattle.std.proofs.Common.{◌≡◌, refl, sym, ◌∙◌, ap, arith, length, nat_eq}
use Rattle.std.proofs.lemmas.Bool.{false≢true}
use Rattle.std.proofs.lemmas.Bool.Decides.{Decides-eqb}
use Rattle.jr_plain.proofs.Headed.{headed_from_local}
use Rattle.jr_lookup.proofs.Visibility.{types_seen, types_demanded, types_nowhere}
use Rattle.jr_lookup.proofs.simple.Sight.types.Goals as goal

pub returns-then-not-is_empty : goal.returns-then-not-is_empty
returns-then-not-is_empty c = λ t x sight number. let p = c.args.self.now.world.under.rows.now in
    types_seen p (headed_from_local p sight.world.seen.placed.local) t x c.args.name c.args.place number c.in_ok-found.found.rows.items _ (c.in_ok-found.ensures t x sight number)
    (λ e. let same : c.in_ok-found.found.rows.len ≡ length c.in_ok-found.found.rows.items = omega (arith, c.in_ok-found.found.rows.ok.0) in
    false≢true (sym c.if-not-is_empty.true ∙ c.is_empty.ensures ∙ ap (λ n. nat_eq n 0) same ∙ (Decides-eqb (length c.in_ok-found.found.rows.items) 0).1 e))

pub returns-in_ok-rows-in-Some : goal.returns-in_ok-rows-in-Some
returns-in_ok-rows-in-Some c = λ t x sight number. let p = c.args.self.now.world.under.rows.now in
    let none = (Decides-eqb c.in_ok-found.found.rows.len 0).0 (sym c.is_empty.ensures ∙ c.if-not-is_empty.false) in
    let empty : length c.in_ok-found.found.rows.items ≡ 0 = omega (arith, c.in_ok-found.found.rows.ok.0) in
    types_demanded p (headed_from_local p sight.world.seen.placed.local) t x c.args.name c.args.place number c.in_ok-found.found.rows.items _ (c.in_ok-found.ensures t x sight number) empty _ (c.importing_unit.ensures sight.world.seen.placed)
    c.in-Some.unit c.in-Some.is _ _ (c.in_ok-rows-in-Some.ensures t sight) refl

pub returns-in-None : goal.returns-in-None
returns-in-None c = λ t x sight number. let p = c.args.self.now.world.under.rows.now in
    let none = (Decides-eqb c.in_ok-found.found.rows.len 0).0 (sym c.is_empty.ensures ∙ c.if-not-is_empty.false) in
    let empty : length c.in_ok-found.found.rows.items ≡ 0 = omega (arith, c.in_ok-found.found.rows.ok.0) in
    types_nowhere p (headed_from_local p sight.world.seen.placed.local) t x c.args.name c.args.place number c.in_ok-found.found.rows.items _ (c.in_ok-found.ensures t x sight number) empty _ (c.importing_unit.ensures sight.world.seen.placed) c.in-None.is
