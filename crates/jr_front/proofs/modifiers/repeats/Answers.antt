use Rattle.std.proofs.Common.{refl, sym, ◌∙◌, ap, arith, ◌+◌, drop}
use Rattle.jr_tree.specs.declared.label.Modifiers.{Modifiers}
use Rattle.jr_front.specs.Modifiers.{leading, repeats}
use Rattle.jr_front.proofs.Repeating.{step_none, step_seen, step_more, step_end}
use Rattle.jr_front.proofs.modifiers.repeats.Goals as goal

pub loop-at-init : goal.loop-at-init
loop-at-init c = refl

pub returns-in_default : goal.returns-in_default
returns-in_default c = sym (step_none c.loop-at.seen c.args.tokens.now c.loop-at.at c.index-tokens-at.result c.loop-at-test.true (sym c.modifier_in.ensures ∙ c.in_default.is)) ∙ c.loop-at.invariant

pub returns-then-has_modifier : goal.returns-then-has_modifier
returns-then-has_modifier c = sym (step_seen c.loop-at.seen c.args.tokens.now c.loop-at.at c.index-tokens-at.result c.in-Some.one c.loop-at-test.true (sym c.modifier_in.ensures ∙ c.in-Some.is) (sym c.has_modifier.ensures ∙ c.if-has_modifier.true))
    ∙ c.loop-at.invariant

pub loop-at-preserved : goal.loop-at-preserved
loop-at-preserved c = ap (λ (s : Modifiers). repeats s (leading (drop (c.loop-at.at + 1) c.args.tokens.now))) c.with_modifier-seen.ensures
    ∙ sym (step_more c.loop-at.seen c.args.tokens.now c.loop-at.at c.index-tokens-at.result c.in-Some.one c.loop-at-test.true (sym c.modifier_in.ensures ∙ c.in-Some.is) (sym c.has_modifier.ensures ∙ c.if-has_modifier.false))
    ∙ c.loop-at.invariant

pub returns : goal.returns
returns c = sym (step_end c.loop-at.seen c.args.tokens.now c.loop-at.at (omega arith)) ∙ c.loop-at.invariant
