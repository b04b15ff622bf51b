use Rattle.std.proofs.Common.{◌∙◌, sym, arith, nat_le, ◌&&◌}
use Rattle.jr_tree.specs.Rows.{end}
use Rattle.jr_plain.specs.Enclosing.{is_body_of}
use Rattle.jr_marks.proofs.Firsts.{first_some}
use Rattle.jr_marks.proofs.Cuts.{from_passes, more_fails}
use Rattle.jr_pullup.proofs.Finding.{body_none, body_type}
use Rattle.jr_pullup.proofs.pulled.body_of.Goals as goal

pub loop-at-preserved : goal.loop-at-preserved
loop-at-preserved c = more_fails (λ k. nat_le c.args.over k) (λ k. is_body_of c.args.rows.now c.args.over k) c.loop-at.at c.loop-at.invariant (sym c.is_body_of.ensures ∙ c.if-is_body_of.false)

pub returns-then-is_body_of : goal.returns-then-is_body_of
returns-then-is_body_of c = λ few. let is = sym c.is_body_of.ensures ∙ c.if-is_body_of.true in let within = body_type c.args.rows.now c.args.over c.loop-at.at is in let e = c.end_at-at-end.ensures (omega arith) in
    sym (first_some (λ k. nat_le c.args.over k && is_body_of c.args.rows.now c.args.over k) (end c.args.rows.now c.args.over) c.loop-at.at (omega arith)
    (from_passes c.args.over c.loop-at.at _ (omega arith) is) c.loop-at.invariant)

pub returns : goal.returns
returns c = λ few. body_none c.args.rows.now c.args.over c.end_at-at-end.result few c.end_at-at-end.ensures (λ k lt. c.loop-at.invariant k (omega arith))
