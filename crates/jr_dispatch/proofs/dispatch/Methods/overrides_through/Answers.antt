use Rattle.std.proofs.Common.{◌≡◌, sym, ◌∙◌, ap, subst, ℕ, length, arith, false, true}
use Rattle.jr_tree.specs.declared.label.Role.TheVariants as role
use Rattle.jr_tree.specs.Rows.{role_at}
use Rattle.jr_plain.specs.Search.{has}
use Rattle.jr_members.specs.declared.declared.MemberKind.TheVariants as kind
use Rattle.jr_members.specs.Keys.{falling, is_named}
use Rattle.jr_dispatch.specs.Overridden.{overrides_directly}
use Rattle.jr_dispatch.proofs.Searching.{row_below, search_begin, search_more, search_stop, search_hits, search_ends, search_tells, named_methods}
use Rattle.jr_dispatch.proofs.dispatch.Methods.overrides_through.Goals as goal

pub loop-turn-init : goal.loop-turn-init
loop-turn-init c = λ t h m. let is = c.in_ok-like.ensures c.args.self.under.rows.now kind.Method h.declared ∙ ap (λ x. falling (length c.args.self.under.rows.now) (is_named c.args.self.under.rows.now kind.Method x)) (c.name-name.ensures c.args.self.under.rows.now h.places (row_below c.args.self.under.rows.now c.args.method m)) in
    search_begin c.args.self.under.rows.now (overrides_directly c.args.self.under.rows.now t) c.args.method c.args.other _ _ _ _ _ c.deref.ensures.value c.new-met.ensures.items (named_methods c.args.self.under.rows.now t h.supers.well.headed c.args.method c.args.other _ is)
    (c.in_ok-left.ensures t h m (subst (λ xs. (k : ℕ) → has xs k ≡ true → role_at c.args.self.under.rows.now k ≡ role.Method) (sym c.deref.ensures.value) (named_methods c.args.self.under.rows.now t h.supers.well.headed c.args.method c.args.other _ is)))

pub returns-in_default : goal.returns-in_default
returns-in_default c = λ t h m. let is = c.in_ok-like.ensures c.args.self.under.rows.now kind.Method h.declared ∙ ap (λ x. falling (length c.args.self.under.rows.now) (is_named c.args.self.under.rows.now kind.Method x)) (c.name-name.ensures c.args.self.under.rows.now h.places (row_below c.args.self.under.rows.now c.args.method m)) in
    search_tells c.args.self.under.rows.now t h.supers.well.headed c.args.method c.args.other _ is false (search_stop (overrides_directly c.args.self.under.rows.now t) c.args.method c.args.other _ _ _ _ _ _ c.deref-in-loop-turn.ensures.value c.item_at.ensures c.in_default.not-Some (c.loop-turn.invariant t h m).0)

pub returns-then-next-other : goal.returns-then-next-other
returns-then-next-other c = λ t h m. let is = c.in_ok-like.ensures c.args.self.under.rows.now kind.Method h.declared ∙ ap (λ x. falling (length c.args.self.under.rows.now) (is_named c.args.self.under.rows.now kind.Method x)) (c.name-name.ensures c.args.self.under.rows.now h.places (row_below c.args.self.under.rows.now c.args.method m)) in
    search_tells c.args.self.under.rows.now t h.supers.well.headed c.args.method c.args.other _ is true (search_hits (overrides_directly c.args.self.under.rows.now t) c.args.method c.args.other c.in_ok-like.like.items c.loop-turn.met.items c.deref-in-loop-turn.result.now c.loop-turn.left.items c.loop-turn.turn c.in-Some.next (omega (arith, c.in_ok-like.like.ok.0)) c.deref-in-loop-turn.ensures.value (sym c.item_at.ensures ∙ c.in-Some.is) c.if-next-other.true (c.loop-turn.invariant t h m).0)

pub returns : goal.returns
returns c = λ t h m. let is = c.in_ok-like.ensures c.args.self.under.rows.now kind.Method h.declared ∙ ap (λ x. falling (length c.args.self.under.rows.now) (is_named c.args.self.under.rows.now kind.Method x)) (c.name-name.ensures c.args.self.under.rows.now h.places (row_below c.args.self.under.rows.now c.args.method m)) in
    search_tells c.args.self.under.rows.now t h.supers.well.headed c.args.method c.args.other _ is false (search_ends (overrides_directly c.args.self.under.rows.now t) c.args.method c.args.other c.in_ok-like.like.items c.loop-turn.met.items c.loop-turn.left.items c.loop-turn.turn (omega (arith, c.in_ok-like.like.ok.0)) (c.loop-turn.invariant t h m).0)

pub loop-turn-preserved : goal.loop-turn-preserved
loop-turn-preserved c = λ t h m. let inv = c.loop-turn.invariant t h m in
    let rows = subst (λ xs. (k : ℕ) → has xs k ≡ true → role_at c.args.self.under.rows.now k ≡ role.Method) (sym c.deref-in-loop-turn-2.ensures.value) inv.1.0 in
    search_more c.args.self.under.rows.now (overrides_directly c.args.self.under.rows.now t) c.args.method c.args.other c.in_ok-like.like.items c.loop-turn.met.items c.deref-in-loop-turn-2.result.now c.loop-turn.left.items c.deref-in-loop-turn.result.now
    c.others-in-loop-turn.new.met.items c.in_ok-left-2.left.items c.loop-turn.turn c.in-Some.next (omega (arith, c.in_ok-like.like.ok.0)) c.deref-in-loop-turn.ensures.value (sym c.item_at.ensures ∙ c.in-Some.is) c.if-next-other.false
    c.deref-in-loop-turn-2.ensures.value inv (λ x. c.in_ok-left-2.ensures t h x rows)
