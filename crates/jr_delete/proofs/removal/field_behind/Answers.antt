use Rattle.std.proofs.Common.{◌≡◌, ◌∙◌, sym, ap, arith, nat_lt, ◌&&◌}
use Rattle.std.proofs.lemmas.Bool.Decides.{Decides-ltb}
use Rattle.jr_tree.specs.Rows.{parent, end}
use Rattle.jr_delete.specs.Deleting.{is_field_of}
use Rattle.jr_marks.proofs.Firsts.{first_none, first_some, above_passes}
use Rattle.jr_marks.proofs.Cuts.{more_fails}
use Rattle.jr_delete.proofs.removal.field_behind.Goals as goal

pub loop-at-preserved : goal.loop-at-preserved
loop-at-preserved c = more_fails (λ k. nat_lt c.args.field k) (λ k. is_field_of c.args.rows.now (parent c.args.rows.now c.args.field) k) c.loop-at.at c.loop-at.invariant (ap (λ d. is_field_of c.args.rows.now d c.loop-at.at) (sym c.parent_at-declaration.ensures) ∙ sym c.is_field_of.ensures ∙ c.if-is_field_of.false)

pub returns-then-is_field_of : goal.returns-then-is_field_of
returns-then-is_field_of c = let e = c.end_at-at-end.ensures (omega arith) in
    sym (first_some (λ k. nat_lt c.args.field k && is_field_of c.args.rows.now (parent c.args.rows.now c.args.field) k) (end c.args.rows.now 0) c.loop-at.at (omega arith)
    (above_passes c.args.field c.loop-at.at _ _ (Decides-ltb c.args.field c.loop-at.at) (omega arith) (ap (λ d. is_field_of c.args.rows.now d c.loop-at.at) (sym c.parent_at-declaration.ensures) ∙ sym c.is_field_of.ensures ∙ c.if-is_field_of.true)) c.loop-at.invariant)

pub returns : goal.returns
returns c = let e = c.end_at-at-end.ensures (omega arith) in
    sym (first_none (λ k. nat_lt c.args.field k && is_field_of c.args.rows.now (parent c.args.rows.now c.args.field) k) (end c.args.rows.now 0) (λ k lt. c.loop-at.invariant k (omega arith)))
