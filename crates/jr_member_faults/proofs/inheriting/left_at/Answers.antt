use Rattle.std.proofs.Common.{subst}
use Rattle.std.specs.Prelude.{Option}
use Rattle.jr_member_faults.specs.declared.beside.Left.{Left}
use Rattle.jr_member_faults.specs.Lefts.{IsLeftAt}
use Rattle.jr_member_faults.proofs.Settled.{name_open, name_plain}
use Rattle.jr_member_faults.proofs.inheriting.left_at.Goals as goal

pub returns-in_ok-add-in-Some : goal.returns-in_ok-add-in-Some
returns-in_ok-add-in-Some c = λ h. let w = c.args.beside.world.now in name_open w h.right c.args.beside.over c.args.name _ _ c.in-Some.left (subst (λ (o : Option Left). IsLeftAt w c.args.beside.over c.args.name o) c.in-Some.is (c.in_ok-found.ensures h)) c.in_ok-add-in-Some.ensures

pub returns-in-None : goal.returns-in-None
returns-in-None c = λ h. let w = c.args.beside.world.now in name_plain w h.right c.args.beside.over c.args.name _ (subst (λ (o : Option Left). IsLeftAt w c.args.beside.over c.args.name o) c.in-None.is (c.in_ok-found.ensures h))
