use Rattle.std.proofs.Common.{◌∙◌, ap, ◌++◌, map}
use Rattle.std.proofs.lemmas.Result.{on_ok_weaker}
use Rattle.jr_tree.specs.Rows.{name}
use Rattle.jr_run.specs.Names.{dotted}
use Rattle.jr_run.proofs.names.add_canonical_name.Goals as goal

pub returns : goal.returns
returns c = λ placed few. on_ok_weaker c.add_dotted.result
    (λ h. h ∙ ap (λ xs. c.args.name.now.items ++ dotted xs) (ap (map (name c.args.rows.now)) c.deref.ensures.value ∙ c.in_ok-all.ensures placed few)) c.add_dotted.ensures
