use Rattle.std.proofs.Common.{◌≡◌, sym, ◌∙◌, ap, subst, length, []}
use Rattle.jr_defs.specs.Referents.{Table}
use Rattle.jr_plain.specs.Search.{Lists}
use Rattle.jr_places.specs.Stamps.{IsStamping}
use Rattle.jr_supers.specs.Direct.{supers_in}
use Rattle.jr_members.specs.declared.declared.MemberKind.{MemberKind}
use Rattle.jr_members.specs.Held.{IsDeclaredAs}
use Rattle.jr_members.specs.Sources.{AreSources}
use Rattle.jr_members.specs.Gathered.{CanGather, IsGatheringIn}
use Rattle.jr_members.proofs.Each.{stamped_none}
use Rattle.jr_members.proofs.Declaring.{own_listed}
use Rattle.jr_members.proofs.Adding.{own_below, pushed_same, gathering_first, gathered_all}
use Rattle.jr_members.proofs.named.Named.gathered.Goals as goal

through : (c : goal.After-drop-own-2) (t : Table) (kind : MemberKind) → AreSources t kind c.args.sources → CanGather c.args.sources.under.rows.now t c.args.sources.supers.now kind c.args.self.now c.args.over
    → IsStamping c.args.stamps.now (length c.args.sources.under.rows.now) → IsGatheringIn c.args.sources.under.rows.now t kind c.args.over c.args.name c.deref-2.result.now c.push_from.new.stamps c.push_from.new.all.items []
through c t kind right can counted = let p = c.args.sources.under.rows.now in let S = c.args.sources.supers.now in let bound = length c.args.sources.under.rows.now in
    let listed : Lists c.deref-2.result.now (IsDeclaredAs p kind c.args.over c.args.name) = subst (λ xs. Lists xs (IsDeclaredAs p kind c.args.over c.args.name)) (sym (c.deref-2.ensures.value ∙ c.in_ok-own.ensures p kind can.declared_is)) (own_listed p kind c.args.over c.args.name) in
    let same : c.deref.result.now ≡ c.deref-2.result.now = c.deref.ensures.value ∙ sym c.deref-2.ensures.value in
    let mine : Lists c.deref.result.now (IsDeclaredAs p kind c.args.over c.args.name) = subst (λ xs. Lists xs (IsDeclaredAs p kind c.args.over c.args.name)) (sym same) listed in
    c.in_ok-push_from.ensures t kind right can (gathering_first p t S right.seen.above kind c.args.over c.args.name c.deref-2.result.now c.push_each.new.all.items c.deref-3.result.now c.push_each.new.stamps listed
    (pushed_same bound c.push_each.new.stamps c.push_each.new.all.items c.new-all.result.items c.deref.result.now c.deref-2.result.now c.new-all.ensures.items same
    (c.in_ok-push_each.ensures bound (stamped_none bound c.empty.new.self c.new-all.result.items c.new-all.ensures.items (c.in_ok-empty.ensures bound counted)) (own_below p kind c.args.over c.args.name c.deref.result.now mine)))
    (c.deref-3.ensures.value ∙ c.in_ok-direct.ensures ∙ ap (λ l. supers_in l c.args.over) c.direct.ensures))

pub returns : goal.returns
returns c = record {
  listed = λ t kind right can counted. gathered_all c.args.sources.under.rows.now t c.args.sources.supers.now right.seen.above kind c.args.over c.args.name c.deref-2.result.now c.push_from.new.all.items c.push_from.new.stamps (through c t kind right can counted);
  counted = λ t kind right can counted. (through c t kind right can counted).stamped.counted;
}
