use Rattle.std.proofs.Common.{◌≡◌, sym, ◌∙◌, subst}
use Rattle.std.proofs.lemmas.Result.{IfOk-weaker}
use Rattle.jr_members.specs.Each.{ListsEach}
use Rattle.jr_members.specs.Held.{IsHeldAs, IsMemberAs}
use Rattle.jr_members.proofs.Objects.{held_all, kind_apart, method_kind, object_none}
use Rattle.jr_members.proofs.members.World.push_of_object.Goals as goal

pub returns-then-not-is_of_interface : goal.returns-then-not-is_of_interface
returns-then-not-is_of_interface c = λ t h held. held_all c.args.self.under.rows.now t c.args.kind c.args.over c.args.name h.class c.args.found.now.items
    (λ d of o. kind_apart c.args.self.under.rows.now t c.args.kind c.args.over d c.args.name (sym c.is_of_interface.ensures ∙ c.if-not-is_of_interface.true) of o) held

pub returns-in-None : goal.returns-in-None
returns-in-None c = λ t h held. held_all c.args.self.under.rows.now t c.args.kind c.args.over c.args.name h.class c.args.found.now.items
    (λ d of o. object_none c.args.self.under.rows.now t c.args.self.supers.now h.seen.above (sym c.in-None.ensures) c.args.over d o) held

pub returns-in-Some : goal.returns-in-Some
returns-in-Some c = λ t h held. let p = c.args.self.under.rows.now in let is = method_kind p t c.args.kind c.args.over (sym c.is_of_interface.ensures ∙ c.if-not-is_of_interface.false) in
    IfOk-weaker c.push_from_object.result _ _ (λ u all. subst (λ k. ListsEach c.push_from_object.new.found.items (IsMemberAs p t k c.args.over c.args.name)) (sym is.0) all)
    (c.push_from_object.ensures t h (sym c.in-Some.ensures) is.1 (subst (λ k. ListsEach c.args.found.now.items (IsHeldAs p t k c.args.over c.args.name)) is.0 held))
