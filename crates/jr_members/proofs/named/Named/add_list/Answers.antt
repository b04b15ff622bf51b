use Rattle.std.proofs.Common.{◌≡◌, refl, sym, ◌∙◌, subst}
use Rattle.std.proofs.lemmas.Result.{IfOk-weaker}
use Rattle.jr_members.specs.Each.{ListsEach}
use Rattle.jr_members.specs.Held.{IsHeldAs}
use Rattle.jr_members.proofs.Adding.{can_gather, list_there, list_added}
use Rattle.jr_members.proofs.named.Named.add_list.Goals as goal

pub returns-then-is_listed : goal.returns-then-is_listed
returns-then-is_listed c = λ t kind right can. list_there c.args.sources.under.rows.now t c.args.sources.supers.now right.seen.above kind c.args.over c.args.name c.args.self.now c.args.stamps.now can (sym c.is_listed.ensures ∙ c.if-is_listed.true)

pub returns : goal.returns
returns c = λ t kind right can. let p = c.args.sources.under.rows.now in let S = c.args.sources.supers.now in let gather = can_gather p t S right.seen.above kind c.args.over c.args.self.now c.args.stamps.now can in
    IfOk-weaker c.add_all.result _ _ (λ u is. list_added p t S right.seen.above kind c.args.over c.args.name c.args.self.now (record { declared = c.args.self.now.declared; lists = c.add_all.new.lists; nearest = c.args.self.now.nearest }) c.args.stamps.now c.gathered.new.stamps c.deref.result.now can refl refl is
    (sym c.is_listed.ensures ∙ c.if-is_listed.false) (subst (λ xs. ListsEach xs (IsHeldAs p t kind c.args.over c.args.name)) (sym c.deref.ensures.value) (c.in_ok-all.ensures.listed t kind right gather can.can.counted)) (c.in_ok-all.ensures.counted t kind right gather can.can.counted)) c.add_all.ensures
