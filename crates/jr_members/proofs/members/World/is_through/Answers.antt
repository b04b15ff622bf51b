use Rattle.std.proofs.Common.{sym, ◌∙◌, ap, ap₂, ◌||◌}
use Rattle.jr_plain.specs.Access.{is_through}
use Rattle.jr_members.proofs.members.World.is_through.Goals as goal

pub returns-in-None : goal.returns-in-None
returns-in-None c = λ t h. ap (is_through c.args.self.under.rows.now t c.args.subclass c.args.at) (sym c.in-None.is)

pub returns-in-Some : goal.returns-in-Some
returns-in-Some c = λ t h. c.either.ensures ∙ ap₂ (λ a b. a || b) c.needs_no_object.ensures (c.is_object_of-object.ensures t h) ∙ ap (is_through c.args.self.under.rows.now t c.args.subclass c.args.at) (sym c.in-Some.is)
