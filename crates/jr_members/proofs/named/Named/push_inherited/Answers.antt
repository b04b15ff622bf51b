use Rattle.std.proofs.Common.{◌≡◌, sym, ◌∙◌, subst, filter, length}
use Rattle.std.proofs.lemmas.Result.{IfOk-weaker}
use Rattle.jr_plain.specs.Search.{Lists}
use Rattle.jr_members.specs.Held.{IsHeldAs}
use Rattle.jr_members.specs.Gathered.{inherits}
use Rattle.jr_members.proofs.Adding.{own_kind, held_kind, some_below, sources_kind, rows_kind, some_kind, can_climb, gathering_up, gathering_next}
use Rattle.jr_members.proofs.named.Named.push_inherited.Goals as goal

pub returns : goal.returns
returns c = λ t kind rest right can h. let p = c.args.sources.under.rows.now in let S = c.args.sources.supers.now in let same = can.declared_is.kind_is in let other = c.args.self.now.declared.kind in
    let up = gathering_up p t S right.seen.above kind c.args.over c.args.name c.args.own.now c.args.all.now.items c.args.stamps.now c.args.from rest h in
    let held : Lists c.deref.result.now (IsHeldAs p t kind c.args.from c.args.name) = subst (λ xs. Lists xs (IsHeldAs p t kind c.args.from c.args.name)) (sym c.deref.ensures.value)
    (c.in_ok-found.ensures t kind right.seen can.declared_is (can_climb p t S kind c.args.self.now c.args.over c.args.from can up) can.near).lists in
    let some : c.deref-2.result.now ≡ filter (inherits p t kind c.args.own.now c.args.over c.args.from) c.deref.result.now = c.deref-2.ensures.value ∙ some_kind p t kind other c.args.own.now c.args.over c.args.from c.deref.result.now c.in_ok-some.some.items same
    (c.in_ok-some.ensures t (sources_kind t kind other c.args.sources same right) (rows_kind p kind other c.args.own.now same (own_kind p kind c.args.over c.args.name c.args.own.now h.own_is))
    (rows_kind p kind other c.deref.result.now same (held_kind p t kind c.args.from c.args.name c.deref.result.now held))) in
    IfOk-weaker c.push_each.result _ _ (λ u is. gathering_next p t S right.seen.above kind c.args.over c.args.name c.args.own.now c.args.all.now.items _ c.args.stamps.now _ c.args.from rest c.deref.result.now c.deref-2.result.now h held some is)
    (c.push_each.ensures (length p) h.stamped (some_below p t kind c.args.from c.args.name (inherits p t kind c.args.own.now c.args.over c.args.from) c.deref.result.now c.deref-2.result.now held some))
