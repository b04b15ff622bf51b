use Rattle.std.proofs.Common.{refl}
use Rattle.jr_flow.proofs.Weaving.{use_added}
use Rattle.jr_flow.proofs.locals.Locals.add_use.Goals as goal

pub returns : goal.returns
returns c = λ points row at h. let mid = c.number.new.self in
    use_added points c.args.number c.args.self.now mid (record { numbers = mid.numbers; rows = mid.rows; definitions = mid.definitions; uses = c.push.new.self }) h c.args.local c.in_ok-key.key (c.in_ok-key.ensures h.numbered) (λ d. refl) refl row at refl c.in_ok-push.ensures.items
