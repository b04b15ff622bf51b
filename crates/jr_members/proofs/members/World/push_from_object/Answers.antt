use Rattle.std.proofs.Common.{◌≡◌, sym, ◌∙◌, subst}
use Rattle.std.proofs.lemmas.Result.{IfOk-weaker}
use Rattle.jr_plain.specs.Search.{Lists}
use Rattle.jr_members.specs.declared.declared.MemberKind.TheVariants as kind
use Rattle.jr_members.specs.Held.{IsDeclaredAs}
use Rattle.jr_members.proofs.Declaring.{own_listed}
use Rattle.jr_members.proofs.Adding.{own_kind}
use Rattle.jr_members.proofs.Objects.{members_all}
use Rattle.jr_members.proofs.members.World.push_from_object.Goals as goal

pub returns : goal.returns
returns c = λ t h object interface held. let p = c.args.self.under.rows.now in let S = c.args.self.supers.now in
    let listed : Lists c.deref.result.now (IsDeclaredAs p kind.Method c.args.object c.args.name) = subst (λ xs. Lists xs (IsDeclaredAs p kind.Method c.args.object c.args.name))
    (sym (c.deref.ensures.value ∙ c.in_ok-own.ensures p kind.Method h.members_are.kinds_are.methods.declared_is)) (own_listed p kind.Method c.args.object c.args.name) in
    IfOk-weaker c.push_methods.result _ _ (λ u adds. members_all p t S h.seen.above c.args.over c.args.name c.args.object c.deref.result.now c.args.found.now.items _ h.class interface object listed held adds)
    (c.push_methods.ensures t h (own_kind p kind.Method c.args.object c.args.name c.deref.result.now listed) held.once)
