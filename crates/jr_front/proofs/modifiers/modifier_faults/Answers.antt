use Rattle.std.proofs.Common.{◌≡◌, arith, subst, length}
use Rattle.jr_plain.specs.Search.{all_such}
use Rattle.jr_rule.specs.Faults.{AreFaultsOf}
use Rattle.jr_rule.specs.declared.Rule.TheVariants as rule
use Rattle.jr_faults.specs.Added.{is_rule}
use Rattle.jr_faults.proofs.Told.{none_added, only_kept, only_more, row_more, told_at}
use Rattle.jr_front.specs.Modifiers.{breaks_modifiers}
use Rattle.jr_front.proofs.modifiers.modifier_faults.Goals as goal

pub loop-at-init : goal.loop-at-init
loop-at-init c = ((λ ordered. none_added rule.Modifiers c.args.out.now.items), only_kept (is_rule rule.Modifiers) c.args.out.now.items)

pub loop-at-preserved : goal.loop-at-preserved
loop-at-preserved c = (
  (λ ordered. row_more c.loop-at.at rule.Modifiers (breaks_modifiers c.args.marks.now) (c.loop-at.invariant.0 ordered) (told_at rule.Modifiers c.loop-at.at (c.breaks_modifiers.ensures ordered) c.in_ok-rule_if.ensures.found)),
  only_more c.loop-at.invariant.1 c.in_ok-rule_if.ensures.others,
)

pub returns-clause-found : goal.returns-clause-found
returns-clause-found c = λ ordered. let whole : c.loop-at.at ≡ length c.args.marks.now.rows.now = (let count = c.in_ok-count.ensures in omega arith) in
    subst (λ n. AreFaultsOf rule.Modifiers (all_such n (breaks_modifiers c.args.marks.now)) c.args.out.now.items c.loop-at.out.items) whole (c.loop-at.invariant.0 ordered)

pub returns-clause-others : goal.returns-clause-others
returns-clause-others c = c.loop-at.invariant.1
