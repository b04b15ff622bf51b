use Rattle.std.proofs.Common.{sym, subst, ap, arith, ◌++◌, filter}
use Rattle.std.proofs.lemmas.List.{drop_more, drop_all}
use Rattle.jr_plain.specs.Overloads.{is_applicable}
use Rattle.jr_members.proofs.Each.{item_in, filter_next, filter_end}
use Rattle.jr_lookup.specs.Choices.{IsAmong}
use Rattle.jr_lookup.specs.Within.{IsWithin}
use Rattle.jr_lookup.proofs.Within.{nothing, one_if}
use Rattle.jr_lookup.proofs.Choosing.{among, applicable_listed}
use Rattle.jr_lookup.proofs.choice.applicable.Goals as goal

pub loop-method-init : goal.loop-method-init
loop-method-init c = (
  subst (λ xs. IsWithin c.args.methods.now xs) (sym c.new-all.ensures.items) (nothing c.args.methods.now),
  λ t h. let p = c.args.world.under.rows.now in ap (λ xs. xs ++ filter (is_applicable p t c.args.place c.args.receiver c.args.arguments.now) c.args.methods.now) c.new-all.ensures.items,
)

pub loop-method-preserved : goal.loop-method-preserved
loop-method-preserved c = let p = c.args.world.under.rows.now in let all = c.args.methods.now in let i = c.loop-method.method-index in (
  subst (λ xs. IsWithin all xs) (sym c.in_ok-push_if.ensures) (one_if all c.loop-method.all.items i 0 _ (omega arith) c.loop-method.invariant.0),
  λ t h. filter_next (is_applicable p t c.args.place c.args.receiver c.args.arguments.now) all _ _ _ c.loop-method.all.items _ _ (drop_more all i 0 (omega arith)) (c.is_applicable-is_such.ensures t h.world_is (h.callable _ (item_in all i 0 (omega arith)))) c.in_ok-push_if.ensures (c.loop-method.invariant.1 t h),
)

pub returns : goal.returns
returns c = let p = c.args.world.under.rows.now in let all = c.args.methods.now in record {
  within = c.loop-method.invariant.0;
  plain = λ t h. filter_end (is_applicable p t c.args.place c.args.receiver c.args.arguments.now) all _ c.loop-method.all.items (drop_all c.loop-method.method-index all (omega arith)) (c.loop-method.invariant.1 t h);
  listed = λ t h once. applicable_listed p t h.world_is.seen.above.well.headed c.args.place c.args.receiver c.args.arguments.now (IsAmong all) all c.loop-method.all.items (filter_end (is_applicable p t c.args.place c.args.receiver c.args.arguments.now) all _ c.loop-method.all.items (drop_all c.loop-method.method-index all (omega arith)) (c.loop-method.invariant.1 t h)) (among all once);
}
