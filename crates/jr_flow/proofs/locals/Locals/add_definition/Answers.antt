use Rattle.std.proofs.Common.{refl}
use Rattle.jr_flow.proofs.Weaving.{definition_added}
use Rattle.jr_flow.proofs.locals.Locals.add_definition.Goals as goal

pub returns : goal.returns
returns c = λ points row at h. let mid = c.number.new.self in
    definition_added points c.args.number c.args.self.now mid (record { numbers = mid.numbers; rows = mid.rows; definitions = c.push.new.self; uses = mid.uses }) h c.args.local c.in_ok-key.key (c.in_ok-key.ensures h.numbered) (λ d. refl) refl row at c.in_ok-push.ensures.items refl
