use Rattle.jr_members.proofs.Accessing.{object_none, object_some}
use Rattle.jr_members.proofs.members.World.is_object_of.Goals as goal

pub returns-in-None : goal.returns-in-None
returns-in-None c = λ t h. object_none c.args.self.under.rows.now t h.well.headed c.args.over c.args.ty.dims c.args.ty.element c.in-None.ensures

pub returns-in-Some : goal.returns-in-Some
returns-in-Some c = λ t h. object_some c.args.self.under.rows.now t h.well.headed c.args.over c.args.ty.dims c.in-Some.at c.args.ty.element c.is_at_or_above.result c.in-Some.ensures (c.is_at_or_above.ensures t h)
