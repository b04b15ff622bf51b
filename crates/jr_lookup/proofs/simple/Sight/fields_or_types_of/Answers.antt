use Rattle.std.proofs.Common.{◌≡◌, sym, ◌∙◌, ap, arith, length, nat_eq}
use Rattle.std.proofs.lemmas.Bool.{false≢true}
use Rattle.std.proofs.lemmas.Bool.Decides.{Decides-eqb}
use Rattle.std.proofs.lemmas.Result.{IfOk-weaker}
use Rattle.jr_defs.specs.Constants.{HasConstantForm}
use Rattle.jr_lookup.proofs.Qualifying.{behind_first, behind_then}
use Rattle.jr_lookup.proofs.simple.Sight.fields_or_types_of.Goals as goal

pub returns-then-not-is_empty : goal.returns-then-not-is_empty
returns-then-not-is_empty c = λ t x o sight h v number. let p = c.args.self.now.world.under.rows.now in
    behind_first p t (HasConstantForm p t) x o c.in_ok-fields.fields.items (c.in_ok-fields.ensures t x o sight.world h v number)
    (λ e. let same : c.in_ok-fields.fields.len ≡ length c.in_ok-fields.fields.items = omega (arith, c.in_ok-fields.fields.ok.0) in
    false≢true (sym c.if-not-is_empty.true ∙ c.is_empty.ensures ∙ ap (λ n. nat_eq n 0) same ∙ (Decides-eqb (length c.in_ok-fields.fields.items) 0).1 e))

pub returns : goal.returns
returns c = λ t x o sight h v number. let p = c.args.self.now.world.under.rows.now in
    let none = (Decides-eqb c.in_ok-fields.fields.len 0).0 (sym c.is_empty.ensures ∙ c.if-not-is_empty.false) in
    let empty : length c.in_ok-fields.fields.items ≡ 0 = omega (arith, c.in_ok-fields.fields.ok.0) in
    IfOk-weaker c.types_of.result _ _ (λ found lists. behind_then p t (HasConstantForm p t) x o c.in_ok-fields.fields.items found.items (c.in_ok-fields.ensures t x o sight.world h v number) empty lists) (c.types_of.ensures t x o sight h number)
