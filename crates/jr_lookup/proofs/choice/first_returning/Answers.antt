use Rattle.std.proofs.Common.{◌≡◌, ◌∙◌, sym, ap, arith, length, nat_eq}
use Rattle.std.proofs.lemmas.Result.{IfOk-weaker}
use Rattle.jr_plain.specs.Overloads.{firsts}
use Rattle.jr_lookup.proofs.Within.{further}
use Rattle.jr_lookup.proofs.Choosing.{is_none, is_full, none_else, some_else}
use Rattle.jr_lookup.proofs.choice.first_returning.Goals as goal

pub returns-then-is_empty : goal.returns-then-is_empty
returns-then-is_empty c = let p = c.args.world.under.rows.now in record {
  within = c.firsts.ensures.within;
  plain = λ t h r. let same : c.in_ok-least.least.len ≡ length c.in_ok-least.least.items = omega (arith, c.in_ok-least.least.ok.0) in
      let none = is_none c.in_ok-least.least.items c.is_empty.result (c.is_empty.ensures ∙ ap (λ n. nat_eq n 0) same) c.if-is_empty.true in
      IfOk-weaker c.firsts.result _ _ (λ all is. is ∙ ap (firsts p t c.args.over) (none_else _ c.args.methods.now (sym (c.in_ok-least.ensures.plain t h r) ∙ none))) (c.firsts.ensures.plain t h.world_is);
}

pub returns : goal.returns
returns c = let p = c.args.world.under.rows.now in record {
  within = IfOk-weaker c.firsts-2.result _ _ (λ left k. further _ _ _ c.in_ok-least.ensures.within k) (rw c.deref.ensures.value at c.firsts-2.ensures.within);
  plain = λ t h r. let same : c.in_ok-least.least.len ≡ length c.in_ok-least.least.items = omega (arith, c.in_ok-least.least.ok.0) in
      let full = is_full c.in_ok-least.least.items c.is_empty.result (c.is_empty.ensures ∙ ap (λ n. nat_eq n 0) same) c.if-is_empty.false in
      let least = c.in_ok-least.ensures.plain t h r in
      IfOk-weaker c.firsts-2.result _ _ (λ all is. is ∙ ap (firsts p t c.args.over) (c.deref.ensures.value ∙ (least ∙ some_else _ c.args.methods.now (λ e. full (least ∙ e))))) (c.firsts-2.ensures.plain t h.world_is);
}
