use Rattle.std.proofs.Common.{sym, ◌∙◌}
use Rattle.jr_meaning.proofs.Holds.{loop_below, none_below, no_loop_below, within_end}
use Rattle.jr_meaning.proofs.holding.holds_loop_below.Goals as goal

pub returns-then-not-holds : goal.returns-then-not-holds
returns-then-not-holds c = no_loop_below c.args.rows.now c.args.range c.args.label (sym c.holds.ensures ∙ c.if-not-holds.true)

pub returns-then-is_target_at : goal.returns-then-is_target_at
returns-then-is_target_at c = let inside = sym c.holds.ensures ∙ c.if-not-holds.false in
    c.holds-then-is_target_at.ensures
    ∙ loop_below c.args.rows.now c.args.range c.args.label _ inside (c.next_before-next.ensures (within_end c.args.range c.args.label inside)) (sym c.is_target_at.ensures ∙ c.if-is_target_at.true)

pub returns-else-is_target_at : goal.returns-else-is_target_at
returns-else-is_target_at c = let inside = sym c.holds.ensures ∙ c.if-not-holds.false in
    c.if-is_target_at.false
    ∙ none_below c.args.rows.now c.args.range c.args.label _ inside (c.next_before-next.ensures (within_end c.args.range c.args.label inside)) (sym c.is_target_at.ensures ∙ c.if-is_target_at.false)
