use Rattle.std.proofs.Common.{◌∙◌, ap, flat_map}
use Rattle.std.proofs.lemmas.Result.{IfOk-weaker}
use Rattle.jr_defs.specs.Referents.{entries}
use Rattle.jr_flow_faults.specs.ExceptionTests.{named_class}
use Rattle.jr_flow_faults.proofs.thrown.declared_classes.Goals as goal

pub returns : goal.returns
returns c = λ tree. IfOk-weaker c.named_classes.result _ _ (λ all h. h ∙ ap (flat_map (named_class c.args.under.now.rows.now (entries c.args.under.now.table.now))) (c.deref.ensures.value ∙ c.in_ok-children.ensures tree)) c.named_classes.ensures
