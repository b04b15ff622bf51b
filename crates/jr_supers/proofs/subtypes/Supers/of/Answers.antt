use Rattle.std.proofs.Common.{◌≡◌, ◌∙◌, sym, ap, subst, None, slice_index_or}
use Rattle.jr_defs.specs.Referents.{entries}
use Rattle.jr_supers.specs.Direct.{HasSupers}
use Rattle.jr_supers.specs.Order.{IsOrderOf}
use Rattle.jr_supers.specs.Above.{AreAllAbove}
use Rattle.jr_supers.proofs.Directs.{has_supers}
use Rattle.jr_supers.proofs.Superclassed.{has_superclasses}
use Rattle.jr_supers.proofs.Built.{all_above, no_loop}
use Rattle.jr_supers.proofs.subtypes.Supers.of.Goals as goal

pub returns : goal.returns
returns c = let p = c.args.under.rows.now in let t = entries c.args.under.table.now in let supers = c.in_ok-direct.direct.supers in record {
  direct = λ well. subst (λ es. HasSupers p t es) (sym c.in_ok-direct.ensures.supers) (has_supers p t well.headed well.one well.first);
  all = λ well none.
      let listed : HasSupers p t supers = subst (λ es. HasSupers p t es) (sym c.in_ok-direct.ensures.supers) (has_supers p t well.headed well.one well.first) in
      let ordered : IsOrderOf p supers c.in_ok-order.order.items = c.in_ok-order.ensures (no_loop p t well.headed well.one supers listed none) in record {
        well = well;
        direct = listed;
        object = c.in_ok-direct.ensures.object;
        superclasses = λ x s. let found : slice_index_or c.in_ok-direct.direct.superclasses.items x None ≡ _ = ap (λ xs. slice_index_or xs x None) c.in_ok-direct.ensures.superclasses in let tells = has_superclasses p t well.headed well.one well.first x s in ((λ e. tells.0 (sym found ∙ e)), (λ k. found ∙ tells.1 k));
        order = ordered;
        above = subst (AreAllAbove p t) (sym c.in_ok-above.ensures) (all_above p t well.headed well.one supers listed c.deref.result.now (subst (IsOrderOf p supers) (sym c.deref.ensures.value) ordered));
      };
}
