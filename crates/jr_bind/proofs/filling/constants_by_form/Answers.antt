use Rattle.jr_defs.specs.Referents.{entries}
use Rattle.jr_bind.proofs.Constant.{formed_result}
use Rattle.jr_bind.proofs.filling.constants_by_form.Goals as goal

pub returns : goal.returns
returns c = λ sized tree. formed_result c.args.under.rows.now (entries c.args.under.table.now) _ _ (λ all. all.value) _ c.deref.ensures.value (c.in_ok-forms.ensures sized.few) (c.constants_of.ensures sized tree)
