use Rattle.std.proofs.Common.{◌∙◌}
use Rattle.jr_member_faults.proofs.Descending.{direct_listed}
use Rattle.jr_member_faults.proofs.redefining.Redefining.breaks_right_above.Goals as goal

pub returns : goal.returns
returns c = λ h th m e s up. let w = c.args.self.now.world.now in c.in_ok-is.ensures h th m e s
    ((direct_listed w h c.args.at _ _ c.direct.ensures (c.deref.ensures.value ∙ c.in_ok-direct.ensures) s).1 up)
