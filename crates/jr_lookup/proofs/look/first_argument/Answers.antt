use Rattle.std.proofs.Common.{◌≡◌, ◌+◌, refl, sym, ◌∙◌, ap, arith, cond}
use Rattle.jr_tree.specs.Rows.{label, end}
use Rattle.jr_lookup.proofs.Arguing.{begins_at}
use Rattle.jr_lookup.proofs.look.first_argument.Goals as goal

pub returns-then-begins_behind : goal.returns-then-begins_behind
returns-then-begins_behind c = λ few. let p = c.args.rows.now in let next : c.saturating_add-next.result ≡ c.args.place + 1 = omega (arith, c.saturating_add-next.ensures) in
    c.end_at.ensures (omega (arith, next)) ∙ ap (end p) next ∙ sym (ap (λ b. cond b (end p (c.args.place + 1)) (c.args.place + 1)) (sym c.begins_behind.ensures ∙ c.if-begins_behind.true)) ∙ begins_at p (label p c.args.place) c.args.place

pub returns-else-begins_behind : goal.returns-else-begins_behind
returns-else-begins_behind c = λ few. let p = c.args.rows.now in let next : c.saturating_add-next.result ≡ c.args.place + 1 = omega (arith, c.saturating_add-next.ensures) in
    next ∙ sym (ap (λ b. cond b (end p (c.args.place + 1)) (c.args.place + 1)) (sym c.begins_behind.ensures ∙ c.if-begins_behind.false)) ∙ begins_at p (label p c.args.place) c.args.place
