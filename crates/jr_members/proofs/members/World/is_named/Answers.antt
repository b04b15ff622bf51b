use Rattle.std.proofs.Common.{◌≡◌, sym, ◌∙◌, ap, subst, Decides}
use Rattle.jr_defs.specs.Members.{MemberOf}
use Rattle.jr_plain.specs.Search.{has}
use Rattle.jr_members.proofs.Objects.{member_named, kind_below}
use Rattle.jr_members.proofs.members.World.is_named.Goals as goal

pub returns : goal.returns
returns c = λ t h role. let p = c.args.self.under.rows.now in
    subst (λ b. Decides b (MemberOf p t c.args.over c.args.at)) (sym (c.has.ensures ∙ ap (λ xs. has xs c.args.at) c.deref.ensures.value))
    (member_named p t c.args.kind c.args.over c.name-name.result c.args.at c.in_ok-all.all.items
    (record { role_is = role; named = sym (c.name-name.ensures p h.seen.placed.are (kind_below p c.args.kind c.args.at role)) }) (c.in_ok-all.ensures t h))
