use Rattle.std.proofs.Common.{subst, sym, length}
use Rattle.jr_flow.specs.Woven.{AreLocals}
use Rattle.jr_flow.proofs.webs.locals_of.Goals as goal

pub returns : goal.returns
returns c = let points = c.args.points.now in subst (AreLocals points (length points)) (sym c.in_ok-new.ensures.ok) (c.in_ok-add_all.ensures (c.new-locals.ensures points))
