use Rattle.std.proofs.Common.{◌≡◌, ◌+◌, ◌-◌, ◌<◌, sym, ◌∙◌, ap, length, arith}
use Rattle.jr_tree.specs.Rows.{label}
use Rattle.jr_flow_defs.specs.Meaning.{is_paren, unwrapped}
use Rattle.jr_flow.proofs.Unwrapping.{paren_inside, paren_next, paren_found, paren_none}
use Rattle.jr_flow.proofs.meaning.operand.Goals as goal

pub loop-turn-init : goal.loop-turn-init
loop-turn-init c = λ lt few. let e : c.saturating_add-first.result ≡ c.args.at + 1 = omega (arith, c.saturating_add-first.ensures) in let none : length c.args.rows.now - 0 ≡ length c.args.rows.now = omega arith in
    ap (λ k. unwrapped c.args.rows.now k c.saturating_add-first.result) none ∙ ap (unwrapped c.args.rows.now (length c.args.rows.now)) e

pub loop-turn-preserved : goal.loop-turn-preserved
loop-turn-preserved c = λ lt few. let paren = sym c.is_paren.ensures ∙ c.if-not-is_paren.false in let inside = paren_inside c.args.rows.now c.loop-turn.here paren in
    paren_next c.args.rows.now _ (length c.args.rows.now) c.loop-turn._turn c.loop-turn.here c.saturating_add-here.result (omega arith) (omega (arith, c.saturating_add-here.ensures, inside)) paren (c.loop-turn.invariant lt few)

pub returns-then-not-is_paren : goal.returns-then-not-is_paren
returns-then-not-is_paren c = λ lt few. paren_found c.args.rows.now _ (length c.args.rows.now) c.loop-turn._turn c.loop-turn.here (omega arith) (sym c.is_paren.ensures ∙ c.if-not-is_paren.true) (c.loop-turn.invariant lt few)

pub returns : goal.returns
returns c = λ lt few. paren_none c.args.rows.now _ (length c.args.rows.now) c.loop-turn._turn c.loop-turn.here (omega arith) (c.loop-turn.invariant lt few)
