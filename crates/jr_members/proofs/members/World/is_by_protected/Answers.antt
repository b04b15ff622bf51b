use Rattle.std.proofs.Common.{sym, ◌∙◌}
use Rattle.jr_members.proofs.Accessing.{unprotected, undeclared, by_subclass}
use Rattle.jr_members.proofs.members.World.is_by_protected.Goals as goal

pub returns-then-not-is_protected : goal.returns-then-not-is_protected
returns-then-not-is_protected c = λ t h. unprotected c.args.self.under.rows.now t h.above.well.headed c.args.at c.args.place c.args.receiver (sym c.is_protected.ensures ∙ c.if-not-is_protected.true)

pub returns-in-None : goal.returns-in-None
returns-in-None c = λ t h. undeclared c.args.self.under.rows.now t h.above.well.headed c.args.at c.args.place c.args.receiver (sym c.in-None.ensures)

pub returns-in-Some : goal.returns-in-Some
returns-in-Some c = λ t h. by_subclass c.args.self.under.rows.now t h.above.well.headed c.args.at c.args.place c.args.receiver c.in-Some.declaring _ (sym c.is_protected.ensures ∙ c.if-not-is_protected.false) (sym c.in-Some.ensures) (c.is_in_subclass.ensures t h)
