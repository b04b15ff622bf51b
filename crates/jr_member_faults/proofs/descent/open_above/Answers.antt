use Rattle.std.proofs.Common.{◌∙◌}
use Rattle.jr_member_faults.proofs.Descending.{direct_listed, opened_above}
use Rattle.jr_member_faults.proofs.descent.open_above.Goals as goal

pub returns : goal.returns
returns c = λ h. let w = c.args.world.now in opened_above w c.args.at _ _ _
    (direct_listed w h c.args.at _ _ c.direct.ensures (c.deref.ensures.value ∙ c.in_ok-direct.ensures)) (c.in_ok-open_each.ensures h)
