use Rattle.std.proofs.Common.{◌≡◌, ◌+◌, ◌∙◌, ap, sym, arith, cond}
use Rattle.jr_tree.specs.Rows.{end}
use Rattle.jr_spell.proofs.Casting.{begins}
use Rattle.jr_spell.proofs.calls.first_argument.Goals as goal

pub returns-then-begins_behind : goal.returns-then-begins_behind
returns-then-begins_behind c = λ few at. let p = c.args.rows.now in let o = c.args.place in let next : c.saturating_add-next.result ≡ o + 1 = omega (arith, c.saturating_add-next.ensures) in
    begins p o c.begins_behind.result c.begins_behind.ensures at (c.end_at.ensures (omega (arith, next)) ∙ ap (end p) next ∙ sym (ap (λ b. cond b (end p (o + 1)) (o + 1)) c.if-begins_behind.true))

pub returns-else-begins_behind : goal.returns-else-begins_behind
returns-else-begins_behind c = λ few at. let p = c.args.rows.now in let o = c.args.place in let next : c.saturating_add-next.result ≡ o + 1 = omega (arith, c.saturating_add-next.ensures) in
    begins p o c.begins_behind.result c.begins_behind.ensures at (next ∙ sym (ap (λ b. cond b (end p (o + 1)) (o + 1)) c.if-begins_behind.false))
