use Rattle.std.proofs.Common.{◌∙◌, sym, ap, subst}
use Rattle.std.proofs.lemmas.Result.{IfOk-weaker}
use Rattle.jr_plain.specs.Overloads.{most_specific}
use Rattle.jr_lookup.specs.Choices.{IsAmong}
use Rattle.jr_lookup.specs.Within.{IsWithin}
use Rattle.jr_lookup.proofs.Within.{nothing}
use Rattle.jr_lookup.proofs.Choosing.{none_first, first_has, among, best_callable, worse_none, best_mosts, most_listed}
use Rattle.jr_lookup.proofs.choice.most_specific.Goals as goal

pub returns-in_default : goal.returns-in_default
returns-in_default c = let p = c.args.world.under.rows.now in let ms = c.args.methods.now in let none = none_first ms c.first_of.result c.first_of.ensures c.in_default.is in record {
  within = subst (λ xs. IsWithin ms xs) (sym c.new.ensures.items) (nothing ms);
  plain = λ t h. c.new.ensures.items ∙ sym (ap (most_specific p t) none);
  listed = λ t h once. most_listed p t h.world_is.seen.above.well.headed (IsAmong ms) ms _ (c.new.ensures.items ∙ sym (ap (most_specific p t) none)) (among ms once);
}

pub returns-then-not-is_most : goal.returns-then-not-is_most
returns-then-not-is_most c = let p = c.args.world.under.rows.now in let ms = c.args.methods.now in let first = c.in-Some.first in let there = first_has ms c.first_of.result first c.first_of.ensures c.in-Some.is in record {
  within = subst (λ xs. IsWithin ms xs) (sym c.new-then-not-is_most.ensures.items) (nothing ms);
  plain = λ t h. let best = c.best-best.ensures t h (h.callable first there) in
      c.new-then-not-is_most.ensures.items ∙ worse_none t c.args.world ms h first _ _ best (c.is_most_specific-is_most.ensures t h (best_callable t c.args.world ms h first _ there best)) c.if-not-is_most.true;
  listed = λ t h once. let best = c.best-best.ensures t h (h.callable first there) in
      most_listed p t h.world_is.seen.above.well.headed (IsAmong ms) ms _
      (c.new-then-not-is_most.ensures.items ∙ worse_none t c.args.world ms h first _ _ best (c.is_most_specific-is_most.ensures t h (best_callable t c.args.world ms h first _ there best)) c.if-not-is_most.true) (among ms once);
}

pub returns : goal.returns
returns c = let p = c.args.world.under.rows.now in let ms = c.args.methods.now in let first = c.in-Some.first in let there = first_has ms c.first_of.result first c.first_of.ensures c.in-Some.is in record {
  within = c.specific_than.ensures.within;
  plain = λ t h. let best = c.best-best.ensures t h (h.callable first there) in let callable = best_callable t c.args.world ms h first _ there best in
      IfOk-weaker c.specific_than.result _ _ (λ all is. best_mosts t c.args.world ms h first _ _ all.items there best (c.is_most_specific-is_most.ensures t h callable) c.if-not-is_most.false is) (c.specific_than.ensures.plain t h callable);
  listed = λ t h once. let best = c.best-best.ensures t h (h.callable first there) in let callable = best_callable t c.args.world ms h first _ there best in
      IfOk-weaker c.specific_than.result _ _ (λ all is. most_listed p t h.world_is.seen.above.well.headed (IsAmong ms) ms all.items
      (best_mosts t c.args.world ms h first _ _ all.items there best (c.is_most_specific-is_most.ensures t h callable) c.if-not-is_most.false is) (among ms once)) (c.specific_than.ensures.plain t h callable);
}
