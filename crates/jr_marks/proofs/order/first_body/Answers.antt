use Rattle.std.proofs.Common.{◌∙◌, sym, arith, nat_lt, ◌&&◌}
use Rattle.std.proofs.lemmas.Bool.Decides.{Decides-ltb}
use Rattle.jr_tree.specs.Rows.{label}
use Rattle.jr_plain.specs.Enclosing.{is_body}
use Rattle.jr_marks.proofs.Firsts.{first_none, first_some, above_passes}
use Rattle.jr_marks.proofs.order.first_body.Goals as goal

pub returns-then-is_body : goal.returns-then-is_body
returns-then-is_body c = sym (first_some (λ k. nat_lt c.args.class k && is_body (label c.args.rows.now k)) c.args.end c.loop-at.at (omega arith)
    (above_passes c.args.class c.loop-at.at _ _ (Decides-ltb c.args.class c.loop-at.at) (omega arith) (sym c.is_body.ensures ∙ c.if-is_body.true)) c.loop-at.invariant)

pub returns : goal.returns
returns c = sym (first_none (λ k. nat_lt c.args.class k && is_body (label c.args.rows.now k)) c.args.end (λ k lt. c.loop-at.invariant k (omega arith)))
