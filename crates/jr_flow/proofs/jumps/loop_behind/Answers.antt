use Rattle.std.proofs.Common.{◌≡◌, sym, ◌∙◌, ap, ◌+◌, ◌<◌, ◌≤◌, ⊎_elim, arith, length}
use Rattle.std.proofs.lemmas.Bool.{cases_lt}
use Rattle.jr_tree.specs.Rows.{label}
use Rattle.jr_flow_defs.specs.Acts.{is_loop}
use Rattle.jr_flow.proofs.Labels.{loop_inside, loop_found, no_loop, no_loop_past}
use Rattle.jr_flow.proofs.jumps.loop_behind.Goals as goal

pub returns-then-is_loop : goal.returns-then-is_loop
returns-then-is_loop c = λ few. let test = sym c.is_loop.ensures ∙ c.if-is_loop.true in let inside = loop_inside c.args.rows.now c.saturating_add-below.result test in
    loop_found c.args.rows.now c.args.at c.saturating_add-below.result (omega (arith, c.saturating_add-below.ensures, inside, few)) test

pub returns-else-is_loop : goal.returns-else-is_loop
returns-else-is_loop c = λ few. no_loop c.args.rows.now c.args.at (⊎_elim
    (λ lt. let e : c.saturating_add-below.result ≡ c.args.at + 1 = omega (arith, c.saturating_add-below.ensures, lt, few) in ap (λ k. is_loop (label c.args.rows.now k)) (sym e) ∙ sym c.is_loop.ensures ∙ c.if-is_loop.false)
    (λ le. no_loop_past c.args.rows.now (c.args.at + 1) le) (cases_lt (c.args.at + 1) (length c.args.rows.now)))
