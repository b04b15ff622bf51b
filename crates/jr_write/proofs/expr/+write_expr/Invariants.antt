use Rattle.std.proofs.Common.{◌≡◌, ◌++◌, drop}
use Rattle.jr_tree.specs.Mirror.Exprs as m
use Rattle.jr_tree.specs.Tokens as e
use Rattle.jr_write.proofs.expr.+write_expr.Given as goal

abbrev pub invariant-write_exprs-loop-expr : goal.invariant-write_exprs-loop-expr
invariant-write_exprs-loop-expr l = l.out.items ++ e.after_expr (m.plain_exprs (drop l.expr-index l.rest)) ≡ l.initial.out.items ++ e.after_expr (m.plain_exprs l.rest)

abbrev pub invariant-write_dims-loop-dim : goal.invariant-write_dims-loop-dim
invariant-write_dims-loop-dim l = l.out.items ++ e.dims_tokens (m.plain_exprs (drop l.dim-index l.dims)) ≡ l.initial.out.items ++ e.dims_tokens (m.plain_exprs l.dims)

abbrev pub invariant-write_inits-loop-init : goal.invariant-write_inits-loop-init
invariant-write_inits-loop-init l = l.out.items ++ e.after_init (m.plain_inits (drop l.init-index l.rest)) ≡ l.initial.out.items ++ e.after_init (m.plain_inits l.rest)
