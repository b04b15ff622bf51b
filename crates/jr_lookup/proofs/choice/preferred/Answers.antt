use Rattle.std.proofs.Common.{◌≡◌, ◌∙◌, sym, ap, subst, arith, length, nat_eq}
use Rattle.std.proofs.lemmas.Result.{IfOk-weaker}
use Rattle.jr_lookup.specs.Choices.{AreCandidates}
use Rattle.jr_lookup.specs.Within.{IsWithin}
use Rattle.jr_lookup.proofs.Within.{itself}
use Rattle.jr_lookup.proofs.Choosing.{few_is, preferred_few, preferred_first, preferred_left}
use Rattle.jr_lookup.proofs.choice.preferred.Goals as goal

pub returns-then-few : goal.returns-then-few
returns-then-few c = let p = c.args.world.under.rows.now in let ms = c.args.methods.items in record {
  within = itself ms;
  plain = λ t h r. preferred_few p t c.args.over ms (few_is ms c.deref.result.now c.is_few-few.result c.deref.ensures.value c.is_few-few.ensures c.if-few.true);
}

pub returns-then-is_empty : goal.returns-then-is_empty
returns-then-is_empty c = let p = c.args.world.under.rows.now in let ms = c.args.methods.items in let same : c.in_ok-left.left.len ≡ length c.in_ok-left.left.items = omega (arith, c.in_ok-left.left.ok.0) in record {
  within = IfOk-weaker c.first_returning.result _ _ (λ all k. subst (λ xs. IsWithin xs all.items) c.deref-then-is_empty.ensures.value k) c.first_returning.ensures.within;
  plain = λ t h r. IfOk-weaker c.first_returning.result _ _ (λ all is. preferred_first p t c.args.over ms c.deref-2.result.now c.deref-then-is_empty.result.now c.in_ok-left.left.items all.items c.is_empty.result
      c.deref-2.ensures.value c.deref-then-is_empty.ensures.value c.in_ok-left.ensures.plain (c.is_empty.ensures ∙ ap (λ n. nat_eq n 0) same) c.if-is_empty.true is)
      (c.first_returning.ensures.plain t (subst (λ xs. AreCandidates t c.args.world xs) (sym c.deref-then-is_empty.ensures.value) h) r);
}

pub returns : goal.returns
returns c = let p = c.args.world.under.rows.now in let ms = c.args.methods.items in let same : c.in_ok-left.left.len ≡ length c.in_ok-left.left.items = omega (arith, c.in_ok-left.left.ok.0) in record {
  within = subst (λ xs. IsWithin xs c.in_ok-left.left.items) c.deref-2.ensures.value c.in_ok-left.ensures.within;
  plain = λ t h r. preferred_left p t c.args.over ms c.deref-2.result.now c.in_ok-left.left.items c.is_empty.result c.deref-2.ensures.value c.in_ok-left.ensures.plain (c.is_empty.ensures ∙ ap (λ n. nat_eq n 0) same) c.if-is_empty.false;
}
