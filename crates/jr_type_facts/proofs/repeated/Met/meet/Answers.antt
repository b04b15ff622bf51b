use Rattle.std.proofs.Common.{◌<◌, ◌+◌, ◌^◌, ◌∙◌, arith, ap₂, ◌||◌}
use Rattle.jr_type_facts.specs.Views.{types_in, constants_in}
use Rattle.jr_type_facts.proofs.repeated.Met.meet.Goals as goal

pub returns-clause-met : goal.returns-clause-met
returns-clause-met c = λ right lt h. let few = right.sized.few in let small : c.args.at + 1 < 2 ^ 32 = omega arith in
    c.meet_default-is_default_met.ensures.met (constants_in c.args.view.now) (types_in c.args.view.now) (c.args.at + 1) right.seen.placed.local.tree lt (c.in_ok-is_value_met.ensures.met few small h)

pub returns-clause-told : goal.returns-clause-told
returns-clause-told c = λ right lt h. let few = right.sized.few in let small : c.args.at + 1 < 2 ^ 32 = omega arith in c.is_either.ensures ∙ ap₂ (λ a b. a || b) (c.in_ok-is_value_met.ensures.told few small h)
    (c.meet_default-is_default_met.ensures.told (constants_in c.args.view.now) (types_in c.args.view.now) (c.args.at + 1) right.seen.placed.local.tree lt (c.in_ok-is_value_met.ensures.met few small h))
