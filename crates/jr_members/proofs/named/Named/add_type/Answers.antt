use Rattle.std.proofs.Common.{◌≡◌, refl, sym, ap, subst}
use Rattle.std.proofs.lemmas.Result.{IfOk-weaker}
use Rattle.jr_plain.specs.Search.{Lists}
use Rattle.jr_members.specs.Sources.{links_of}
use Rattle.jr_members.specs.Gathered.{IsWantedAs}
use Rattle.jr_members.proofs.Adding.{type_is_listed, type_added}
use Rattle.jr_members.proofs.named.Named.add_type.Goals as goal

pub returns : goal.returns
returns c = λ t kind right can. let p = c.args.sources.under.rows.now in let S = c.args.sources.supers.now in let rows = c.in_ok-rows.ensures t kind right can.can.declared_is in
    let adds = c.in_ok-add_lists.ensures t kind right can (subst (λ xs. Lists xs (IsWantedAs p t (links_of S) kind c.args.over)) (sym c.deref.ensures.value) rows) in
    IfOk-weaker c.add.result _ _ (λ u near. type_added p t S right.seen.above kind c.args.over c.args.self.now c.add_lists.new.self _ c.add_lists.new.stamps adds refl refl near)
    (c.add.ensures t kind c.add_lists.new.self.lists right.seen.placed adds.can.near
    (type_is_listed p t S right.seen.above kind c.args.over c.args.self.now c.add_lists.new.self c.add_lists.new.stamps c.deref-2.result.now adds (subst (λ xs. Lists xs (IsWantedAs p t (links_of S) kind c.args.over)) (sym c.deref-2.ensures.value) rows)))
