use Rattle.std.proofs.Common.{◌≡◌, ◌∙◌, sym, ap, subst, arith, length, nat_eq}
use Rattle.std.specs.List.{list_all}
use Rattle.jr_plain.specs.Overloads.{is_more_specific}
use Rattle.jr_lookup.specs.Choices.{AreCandidates}
use Rattle.jr_lookup.specs.Within.{IsWithin}
use Rattle.jr_lookup.proofs.Within.{itself, further}
use Rattle.jr_lookup.proofs.Choosing.{few_is, candidates_filter, left_few, left_all, left_some}
use Rattle.jr_lookup.proofs.choice.left_of.Goals as goal

pub returns-then-few : goal.returns-then-few
returns-then-few c = let p = c.args.world.under.rows.now in let all = c.args.all.items in record {
  within = itself all;
  plain = λ t h r. left_few p t c.args.over all (few_is all c.deref.result.now c.is_few-few.result c.deref.ensures.value c.is_few-few.ensures c.if-few.true);
}

pub returns-then-is_empty : goal.returns-then-is_empty
returns-then-is_empty c = let p = c.args.world.under.rows.now in let all = c.args.all.items in let seen = c.deref-2.result.now in let same : c.in_ok-left.left.len ≡ length c.in_ok-left.left.items = omega (arith, c.in_ok-left.left.ok.0) in record {
  within = itself all;
  plain = λ t h r. let given = subst (λ xs. AreCandidates t c.args.world xs) (sym c.deref-2.ensures.value) h in let some = c.in_ok-specific.ensures.plain t given in
      left_all p t c.args.over all seen c.in_ok-specific.specific.items c.in_ok-left.left.items c.is_empty.result c.deref-2.ensures.value some
      (c.in_ok-left.ensures.plain t (candidates_filter t c.args.world (λ m. list_all (λ k. is_more_specific p t m k) seen) seen _ some given) r) (c.is_empty.ensures ∙ ap (λ n. nat_eq n 0) same) c.if-is_empty.true;
}

pub returns : goal.returns
returns c = let p = c.args.world.under.rows.now in let all = c.args.all.items in let seen = c.deref-2.result.now in let same : c.in_ok-left.left.len ≡ length c.in_ok-left.left.items = omega (arith, c.in_ok-left.left.ok.0) in record {
  within = further all c.in_ok-specific.specific.items c.in_ok-left.left.items (subst (λ xs. IsWithin xs c.in_ok-specific.specific.items) c.deref-2.ensures.value c.in_ok-specific.ensures.within) c.in_ok-left.ensures.within;
  plain = λ t h r. let given = subst (λ xs. AreCandidates t c.args.world xs) (sym c.deref-2.ensures.value) h in let some = c.in_ok-specific.ensures.plain t given in
      left_some p t c.args.over all seen c.in_ok-specific.specific.items c.in_ok-left.left.items c.is_empty.result c.deref-2.ensures.value some
      (c.in_ok-left.ensures.plain t (candidates_filter t c.args.world (λ m. list_all (λ k. is_more_specific p t m k) seen) seen _ some given) r) (c.is_empty.ensures ∙ ap (λ n. nat_eq n 0) same) c.if-is_empty.false;
}
