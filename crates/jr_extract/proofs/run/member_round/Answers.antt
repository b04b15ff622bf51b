use Rattle.std.proofs.Common.{◌≡◌, ◌∙◌, ap, sym, arith, ℕ, ◌+◌, ◌-◌, length}
use Rattle.jr_extract.specs.Running.{member_from}
use Rattle.jr_extract.proofs.Counting.{member_here, member_more, member_stops}
use Rattle.jr_extract.proofs.Taking.{member_over}
use Rattle.jr_extract.proofs.run.member_round.Goals as goal

pub loop-turn-preserved : goal.loop-turn-preserved
loop-turn-preserved c = let p = c.args.rows.now in let left : ℕ = length p - (c.loop-turn._turn + 1) in let more : length p - c.loop-turn._turn ≡ left + 1 = omega (arith, c.loop-turn-test.true) in
    ap (λ n. member_from p left n) c.parent_at-over.ensures ∙ sym (member_more p left c.loop-turn.over (sym c.is_member.ensures ∙ c.if-is_member.false) (sym c.is_type.ensures ∙ c.if-is_type.false))
    ∙ ap (λ k. member_from p k c.loop-turn.over) (sym more) ∙ c.loop-turn.invariant

pub returns-then-is_member : goal.returns-then-is_member
returns-then-is_member c = let p = c.args.rows.now in let left : ℕ = length p - (c.loop-turn._turn + 1) in let more : length p - c.loop-turn._turn ≡ left + 1 = omega (arith, c.loop-turn-test.true) in
    sym (member_here p left c.loop-turn.over (sym c.is_member.ensures ∙ c.if-is_member.true)) ∙ ap (λ k. member_from p k c.loop-turn.over) (sym more) ∙ c.loop-turn.invariant

pub returns-then-is_type : goal.returns-then-is_type
returns-then-is_type c = let p = c.args.rows.now in let left : ℕ = length p - (c.loop-turn._turn + 1) in let more : length p - c.loop-turn._turn ≡ left + 1 = omega (arith, c.loop-turn-test.true) in
    sym (member_stops p left c.loop-turn.over (sym c.is_member.ensures ∙ c.if-is_member.false) (sym c.is_type.ensures ∙ c.if-is_type.true)) ∙ ap (λ k. member_from p k c.loop-turn.over) (sym more) ∙ c.loop-turn.invariant

pub returns : goal.returns
returns c = member_over c.args.rows.now c.loop-turn.over (length c.args.rows.now - c.loop-turn._turn) _ (omega arith) c.loop-turn.invariant
