use Rattle.std.proofs.Common.{◌≡◌, refl, sym, ◌∙◌, ap, arith, length, nat_eq}
use Rattle.std.proofs.lemmas.Bool.{false≢true}
use Rattle.std.proofs.lemmas.Bool.Decides.{Decides-eqb}
use Rattle.std.proofs.lemmas.Result.{IfOk-weaker}
use Rattle.jr_plain.proofs.Headed.{headed_from_local}
use Rattle.jr_lookup.proofs.Shadowing.{variables_local, variables_field, all_local, variables_all, ok_both}
use Rattle.jr_lookup.proofs.simple.Sight.variables.Goals as goal

pub returns-then-not-is_empty-clause-within : goal.returns-then-not-is_empty-clause-within
returns-then-not-is_empty-clause-within c = λ t x world are placed lt number. variables_local c.args.self.now.world.under.rows.now world.seen.placed.local placed t x c.args.name c.args.place lt number c.in_ok-locals.locals.items _
    (c.in_ok-locals.ensures t x world are placed lt number)
    (λ e. let same : c.in_ok-locals.locals.len ≡ length c.in_ok-locals.locals.items = omega (arith, c.in_ok-locals.locals.ok.0) in
    false≢true (sym c.if-not-is_empty.true ∙ c.is_empty.ensures ∙ ap (λ n. nat_eq n 0) same ∙ (Decides-eqb (length c.in_ok-locals.locals.items) 0).1 e)) refl

pub returns-clause-within : goal.returns-clause-within
returns-clause-within c = λ t x world are placed lt number.
    let none = (Decides-eqb c.in_ok-locals.locals.len 0).0 (sym c.is_empty.ensures ∙ c.if-not-is_empty.false) in
    let empty : length c.in_ok-locals.locals.items ≡ 0 = omega (arith, c.in_ok-locals.locals.ok.0) in
    IfOk-weaker c.fields.result _ _ (λ found fields. variables_field c.args.self.now.world.under.rows.now world.seen.placed.local placed t x c.args.name c.args.place lt number c.in_ok-locals.locals.items found.rows.items found.level
    (c.in_ok-locals.ensures t x world are placed lt number) empty fields) (c.fields.ensures.around t world)

pub returns-then-not-is_empty-clause-visible : goal.returns-then-not-is_empty-clause-visible
returns-then-not-is_empty-clause-visible c = λ t x sight placed lt number. all_local c.args.self.now.world.under.rows.now sight.world.seen.placed.local placed t x c.args.name c.args.place lt number c.in_ok-locals.locals.items _
    (c.in_ok-locals.ensures t x sight.world sight.scopes placed lt number)
    (λ e. let same : c.in_ok-locals.locals.len ≡ length c.in_ok-locals.locals.items = omega (arith, c.in_ok-locals.locals.ok.0) in
    false≢true (sym c.if-not-is_empty.true ∙ c.is_empty.ensures ∙ ap (λ n. nat_eq n 0) same ∙ (Decides-eqb (length c.in_ok-locals.locals.items) 0).1 e)) refl

pub returns-clause-visible : goal.returns-clause-visible
returns-clause-visible c = λ t x sight placed lt number.
    let p = c.args.self.now.world.under.rows.now in
    let none = (Decides-eqb c.in_ok-locals.locals.len 0).0 (sym c.is_empty.ensures ∙ c.if-not-is_empty.false) in
    let empty : length c.in_ok-locals.locals.items ≡ 0 = omega (arith, c.in_ok-locals.locals.ok.0) in
    ok_both c.fields.result _ _ _ (λ found around far. variables_all p t (headed_from_local p sight.world.seen.placed.local) c.args.place c.args.name sight.world.seen.placed.local placed x lt number c.in_ok-locals.locals.items found.rows.items found.level
    (c.in_ok-locals.ensures t x sight.world sight.scopes placed lt number) empty around far) (c.fields.ensures.around t sight.world) (c.fields.ensures.far t sight)
