use Rattle.std.proofs.Common.{◌≡◌, sym, ◌∙◌, ap, arith, length, nat_eq}
use Rattle.std.proofs.lemmas.Bool.{false≢true}
use Rattle.std.proofs.lemmas.Bool.Decides.{Decides-eqb}
use Rattle.std.proofs.lemmas.Result.{IfOk-weaker}
use Rattle.jr_lookup.proofs.Referring.{ambiguous_first, ambiguous_then}
use Rattle.jr_lookup.proofs.simple.Sight.variables_or_types.Goals as goal

pub returns-then-not-is_empty : goal.returns-then-not-is_empty
returns-then-not-is_empty c = λ t x sight placed lt number. ambiguous_first c.args.self.now.world.under.rows.now t x c.args.place c.in_ok-variables.variables.rows.items _ (c.in_ok-variables.ensures.visible t x sight placed lt number)
    (λ e. let same : c.in_ok-variables.variables.rows.len ≡ length c.in_ok-variables.variables.rows.items = omega (arith, c.in_ok-variables.variables.rows.ok.0) in
    false≢true (sym c.if-not-is_empty.true ∙ c.is_empty.ensures ∙ ap (λ n. nat_eq n 0) same ∙ (Decides-eqb (length c.in_ok-variables.variables.rows.items) 0).1 e))

pub returns : goal.returns
returns c = λ t x sight placed lt number.
    let none = (Decides-eqb c.in_ok-variables.variables.rows.len 0).0 (sym c.is_empty.ensures ∙ c.if-not-is_empty.false) in
    let empty : length c.in_ok-variables.variables.rows.items ≡ 0 = omega (arith, c.in_ok-variables.variables.rows.ok.0) in
    IfOk-weaker c.types.result _ _ (λ found are. ambiguous_then c.args.self.now.world.under.rows.now t x c.args.place c.in_ok-variables.variables.rows.items found.rows.items c.in_ok-variables.variables.level found.level
    (c.in_ok-variables.ensures.visible t x sight placed lt number) empty are) (c.types.ensures t x sight number)
