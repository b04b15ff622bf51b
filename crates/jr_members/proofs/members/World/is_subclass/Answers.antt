use Rattle.std.proofs.Common.{sym, subst, Decides}
use Rattle.jr_members.specs.Near.{IsSubclass}
use Rattle.jr_members.proofs.Accessing.{subclass_is}
use Rattle.jr_members.proofs.members.World.is_subclass.Goals as goal

pub returns : goal.returns
returns c = λ t h. let p = c.args.self.under.rows.now in subst (λ b. Decides b (IsSubclass p t c.args.declaring c.args.at c.args.receiver c.args.here)) (sym c.both.ensures)
    (subclass_is p t h.well.headed c.args.declaring c.args.at c.args.here c.args.receiver _ _ (c.is_at_or_above-above.ensures t h) (c.is_through-through.ensures t h))
