use Rattle.std.proofs.Common.{◌∙◌, sym, ap₂, subst, ◌++◌, []}
use Rattle.jr_supers.specs.Order.{IsSearching, searching, entering}
use Rattle.jr_supers.proofs.Ordered.{begins}
use Rattle.jr_supers.proofs.ordering.order_of.Goals as goal

pub returns : goal.returns
returns c = λ none. c.ordered.ensures none (subst (λ s. IsSearching c.args.rows.now c.args.supers.now s)
    (ap₂ (λ met next. searching met next []) (sym c.in_ok-met.ensures) (sym (c.in_ok-push_types.ensures ∙ ap₂ (λ xs ys. xs ++ entering c.args.rows.now ys) c.new-waiting.ensures.items (c.deref.ensures.value ∙ c.in_ok-all_rows.ensures))))
    (begins c.args.rows.now c.args.supers.now))
