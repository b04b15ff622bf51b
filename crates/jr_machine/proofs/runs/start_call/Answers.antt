use Rattle.std.proofs.Common.{◌≡◌, ap, ◌∙◌, None, false, List, [], ◌∷◌, ◌++◌}
use Rattle.jr_core.specs.declared.code.Code as declared_code
use Rattle.jr_core.specs.declared.code.Code.TheVariants as code
use Rattle.jr_core.specs.Mirror as m
use Rattle.jr_core.specs.Mirror.{plain_code, plain_codes}
use Rattle.jr_machine.proofs.Viewing.{start_view}
use Rattle.jr_machine.proofs.runs.start_call.Goals as goal

pub returns : goal.returns
returns c = start_view c.args.start c.push.new.self (c.in_ok-push.ensures.ok ∙ ap (λ all. all ++ code.Lit None ∷ []) c.new-args.ensures)
