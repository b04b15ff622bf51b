use Rattle.std.proofs.Common.{◌∙◌, ap, ◌++◌}
use Rattle.jr_run.specs.Names.{canonical_name}
use Rattle.jr_run.proofs.names.canonical_name.Goals as goal

pub returns : goal.returns
returns c = λ placed few. c.in_ok-add_canonical_name.ensures placed few ∙ ap (λ xs. xs ++ canonical_name c.args.rows.now c.args.class) c.new-name.ensures.items
