use Rattle.std.proofs.Common.{sym, ◌∙◌, ap}
use Rattle.jr_members.specs.Held.{kind_of}
use Rattle.jr_members.proofs.Objects.{kind_is, member_there, member_apart}
use Rattle.jr_members.proofs.members.World.is_member.Goals as goal

pub returns-then-is_declared_in : goal.returns-then-is_declared_in
returns-then-is_declared_in c = λ t h. member_there c.args.self.under.rows.now t c.args.over c.args.at (c.is_declared_in.ensures.0 c.if-is_declared_in.true)

pub returns-in-None : goal.returns-in-None
returns-in-None c = λ t h. member_apart c.args.self.under.rows.now t h.class c.args.over c.args.at (sym (c.in-None.ensures ∙ ap kind_of c.role_at.ensures))

pub returns-in-Some : goal.returns-in-Some
returns-in-Some c = λ t h. c.is_named.ensures t h (kind_is _ c.in-Some.kind (sym (c.in-Some.ensures ∙ ap kind_of c.role_at.ensures)))
