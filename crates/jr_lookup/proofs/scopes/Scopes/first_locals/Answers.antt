use Rattle.std.proofs.Common.{◌≡◌, sym, ◌∙◌, ap, arith, ◌+◌, ◌-◌, length, nat_eq}
use Rattle.std.proofs.lemmas.Bool.{false≢true}
use Rattle.std.proofs.lemmas.Bool.Decides.{Decides-eqb}
use Rattle.jr_lookup.specs.Locals.{locals_in, locals_at}
use Rattle.jr_lookup.proofs.Nesting.{climb_more, climb_found, climb_root}
use Rattle.jr_lookup.proofs.scopes.Scopes.first_locals.Goals as goal

pub returns-then-not-is_empty : goal.returns-then-not-is_empty
returns-then-not-is_empty c = λ are. climb_found c.args.rows.now (locals_in c.args.rows.now c.args.name c.args.place) (locals_at c.args.rows.now c.args.name c.args.place)
    (c.args.place - c.loop-turn._turn) (c.args.place - (c.loop-turn._turn + 1)) c.loop-turn.over c.in_ok-found.found.items (omega arith) (c.in_ok-found.ensures are)
    (λ e. let same : c.in_ok-found.found.len ≡ length c.in_ok-found.found.items = omega (arith, c.in_ok-found.found.ok.0) in
    false≢true (sym c.if-not-is_empty.true ∙ c.is_empty.ensures ∙ ap (λ n. nat_eq n 0) same ∙ (Decides-eqb (length c.in_ok-found.found.items) 0).1 e)) (c.loop-turn.invariant are)

pub returns-then-over-eq0 : goal.returns-then-over-eq0
returns-then-over-eq0 c = λ are.
    let none = (Decides-eqb c.in_ok-found.found.len 0).0 (sym c.is_empty.ensures ∙ c.if-not-is_empty.false) in
    let empty : length c.in_ok-found.found.items ≡ 0 = omega (arith, c.in_ok-found.found.ok.0) in
    climb_root c.args.rows.now (locals_in c.args.rows.now c.args.name c.args.place) (locals_at c.args.rows.now c.args.name c.args.place)
    (c.args.place - c.loop-turn._turn) (c.args.place - (c.loop-turn._turn + 1)) c.loop-turn.over c.in_ok-found.found.items (omega arith) (c.in_ok-found.ensures are) empty c.if-over-eq0.true (c.loop-turn.invariant are)

pub loop-turn-preserved : goal.loop-turn-preserved
loop-turn-preserved c = λ are.
    let none = (Decides-eqb c.in_ok-found.found.len 0).0 (sym c.is_empty.ensures ∙ c.if-not-is_empty.false) in
    let empty : length c.in_ok-found.found.items ≡ 0 = omega (arith, c.in_ok-found.found.ok.0) in
    climb_more c.args.rows.now (locals_in c.args.rows.now c.args.name c.args.place) (locals_at c.args.rows.now c.args.name c.args.place)
    (c.args.place - c.loop-turn._turn) (c.args.place - (c.loop-turn._turn + 1)) c.loop-turn.over c.parent_at-over.result c.in_ok-found.found.items (omega arith) (c.in_ok-found.ensures are) empty
    c.if-over-eq0.false c.parent_at-over.ensures (c.loop-turn.invariant are)
