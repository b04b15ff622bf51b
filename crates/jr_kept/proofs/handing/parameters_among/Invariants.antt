use Rattle.std.proofs.Common.{◌≡◌, ◌++◌, drop, filter}
use Rattle.jr_tree.specs.Rows.{label}
use Rattle.jr_flow_defs.specs.Acts.{is_parameter}
use Rattle.jr_kept.proofs.handing.parameters_among.Given as goal

abbrev pub invariant-loop-at : goal.invariant-loop-at
invariant-loop-at l = l.found.items ++ filter (λ k. is_parameter (label l.rows k)) (drop l.at-index l.all) ≡ filter (λ k. is_parameter (label l.rows k)) l.all
