use Rattle.std.proofs.lemmas.Map.Text.{btree_map_updates_str}
use Rattle.jr_thin.proofs.binding.declare.Goals as goal

pub returns : goal.returns
returns c = λ other. btree_map_updates_str c.args.text.now c.args.declared.now c.insert.new.self _ c.in_ok-insert.ensures.updates other
