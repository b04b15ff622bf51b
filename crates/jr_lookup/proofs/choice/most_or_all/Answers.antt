use Rattle.std.proofs.Common.{◌≡◌, ◌∙◌, sym, ap, subst, arith, length, nat_eq}
use Rattle.jr_lookup.specs.Choices.{AreCandidates}
use Rattle.jr_lookup.specs.Within.{IsWithin}
use Rattle.jr_lookup.proofs.Within.{itself}
use Rattle.jr_lookup.proofs.Choosing.{few_is, most_few, most_all, most_some}
use Rattle.jr_lookup.proofs.choice.most_or_all.Goals as goal

pub returns-then-few : goal.returns-then-few
returns-then-few c = let all = c.args.all.items in record {
  within = itself all;
  plain = λ t h. most_few c.args.world.under.rows.now t all (few_is all c.deref.result.now c.is_few-few.result c.deref.ensures.value c.is_few-few.ensures c.if-few.true);
}

pub returns-then-is_empty : goal.returns-then-is_empty
returns-then-is_empty c = let all = c.args.all.items in let same : c.in_ok-left.left.len ≡ length c.in_ok-left.left.items = omega (arith, c.in_ok-left.left.ok.0) in record {
  within = itself all;
  plain = λ t h. most_all c.args.world.under.rows.now t all c.deref-2.result.now c.in_ok-left.left.items c.is_empty.result c.deref-2.ensures.value
      (c.in_ok-left.ensures.plain t (subst (λ xs. AreCandidates t c.args.world xs) (sym c.deref-2.ensures.value) h)) (c.is_empty.ensures ∙ ap (λ n. nat_eq n 0) same) c.if-is_empty.true;
}

pub returns : goal.returns
returns c = let all = c.args.all.items in let same : c.in_ok-left.left.len ≡ length c.in_ok-left.left.items = omega (arith, c.in_ok-left.left.ok.0) in record {
  within = subst (λ xs. IsWithin xs c.in_ok-left.left.items) c.deref-2.ensures.value c.in_ok-left.ensures.within;
  plain = λ t h. most_some c.args.world.under.rows.now t all c.deref-2.result.now c.in_ok-left.left.items c.is_empty.result c.deref-2.ensures.value
      (c.in_ok-left.ensures.plain t (subst (λ xs. AreCandidates t c.args.world xs) (sym c.deref-2.ensures.value) h)) (c.is_empty.ensures ∙ ap (λ n. nat_eq n 0) same) c.if-is_empty.false;
}
