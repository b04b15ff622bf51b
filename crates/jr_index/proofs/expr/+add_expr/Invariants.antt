use Rattle.std.proofs.Common.{drop}
use Rattle.jr_tree.specs.Mirror.Exprs as x
use Rattle.jr_index.specs.Events as e
use Rattle.jr_index.specs.Writing.{written, Leads}
use Rattle.jr_index.proofs.expr.+add_expr.Given as goal

abbrev pub invariant-add_exprs-loop-expr : goal.invariant-add_exprs-loop-expr
invariant-add_exprs-loop-expr l = Leads (written l.initial.out) (written l.out) (e.exprs_events l.commas (x.plain_exprs (drop l.expr-index l.exprs))) (e.exprs_events 0 (x.plain_exprs (l.exprs)))

abbrev pub invariant-add_inits-loop-init : goal.invariant-add_inits-loop-init
invariant-add_inits-loop-init l = Leads (written l.initial.out) (written l.out) (e.inits_events l.commas (x.plain_inits (drop l.init-index l.inits))) (e.inits_events 0 (x.plain_inits (l.inits)))

abbrev pub invariant-add_lengths-loop-size : goal.invariant-add_lengths-loop-size
invariant-add_lengths-loop-size l = Leads (written l.initial.out) (written l.out) (e.lengths_events (x.plain_exprs (drop l.size-index l.lengths))) (e.lengths_events (x.plain_exprs (l.lengths)))
