use Rattle.std.proofs.Common.{◌∙◌, ap, sym, bytes_eq}
use Rattle.jr_run.proofs.Started.{class_by, class_not}
use Rattle.jr_run.proofs.start.is_class_named.Goals as goal

pub returns-then-not-is_class : goal.returns-then-not-is_class
returns-then-not-is_class c = λ placed few. class_not c.args.under.now.rows.now c.args.name.now c.args.at (sym c.is_class.ensures ∙ c.if-not-is_class.true)

pub returns : goal.returns
returns c = λ placed few. class_by c.args.under.now.rows.now c.args.name.now c.args.at _ (sym c.is_class.ensures ∙ c.if-not-is_class.false)
    (c.is_same.ensures ∙ ap (λ x. bytes_eq x c.args.name.now) (c.deref.ensures.value ∙ c.in_ok-canonical.ensures placed few))
