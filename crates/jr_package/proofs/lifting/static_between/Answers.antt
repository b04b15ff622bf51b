use Rattle.std.proofs.Common.{◌≡◌, ◌∙◌, sym, arith, nat_le, ◌&&◌}
use Rattle.jr_marks.proofs.Firsts.{first_none, first_some}
use Rattle.jr_marks.proofs.Cuts.{from_passes, more_fails}
use Rattle.jr_package.specs.Lifting.{is_static_token}
use Rattle.jr_package.proofs.lifting.static_between.Goals as goal

pub loop-token-preserved : goal.loop-token-preserved
loop-token-preserved c = λ ordered. more_fails (λ k. nat_le c.args.first k) (λ k. is_static_token c.args.marks.now c.args.lifted k) c.loop-token.token (c.loop-token.invariant ordered) (sym (c.is_static_token.ensures ordered) ∙ c.if-is_static_token.false)

pub returns-then-is_static_token : goal.returns-then-is_static_token
returns-then-is_static_token c = λ ordered. sym (first_some (λ k. nat_le c.args.first k && is_static_token c.args.marks.now c.args.lifted k) c.args.own c.loop-token.token (omega arith)
    (from_passes c.args.first c.loop-token.token _ (omega arith) (sym (c.is_static_token.ensures ordered) ∙ c.if-is_static_token.true)) (c.loop-token.invariant ordered))

pub returns : goal.returns
returns c = λ ordered. sym (first_none (λ k. nat_le c.args.first k && is_static_token c.args.marks.now c.args.lifted k) c.args.own (λ k lt. c.loop-token.invariant ordered k (omega arith)))
