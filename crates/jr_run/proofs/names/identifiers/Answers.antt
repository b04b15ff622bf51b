use Rattle.std.proofs.Common.{◌∙◌, ap, ◌++◌, append-nil, map}
use Rattle.jr_tree.specs.Rows.{name}
use Rattle.jr_run.specs.Names.{canonical_path, named}
use Rattle.jr_run.proofs.names.identifiers.Goals as goal

pub returns : goal.returns
returns c = λ placed few. ap (map (name c.args.rows.now)) c.reverse.ensures.items ∙ c.in_ok-push_path.ensures placed few
    ∙ ap (λ xs. canonical_path c.args.rows.now c.args.class ++ named c.args.rows.now xs) c.new-all.ensures.items ∙ append-nil (canonical_path c.args.rows.now c.args.class)
