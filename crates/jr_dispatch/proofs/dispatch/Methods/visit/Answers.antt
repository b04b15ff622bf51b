use Rattle.std.proofs.Common.{sym, ◌∙◌}
use Rattle.std.proofs.lemmas.Bool.{false≢true}
use Rattle.jr_dispatch.proofs.Inheriting.{visited_apart, visited_there, visited_closed, visited_replaced, visited_marked}
use Rattle.jr_dispatch.proofs.dispatch.Methods.visit.Goals as goal

pub returns-then-not-has : goal.returns-then-not-has
returns-then-not-has c = λ t h m counted. visited_apart c.args.self.under.rows.now t c.args.at c.args.method m _ _ counted (sym c.has.ensures ∙ c.if-not-has.true)

pub returns-then-is_declared_in : goal.returns-then-is_declared_in
returns-then-is_declared_in c = λ t h m counted. visited_there c.args.self.under.rows.now t c.args.at c.args.method m _ _ counted (sym c.has.ensures ∙ c.if-not-has.false) (c.is_declared_in.ensures.0 c.if-is_declared_in.true)

pub returns-then-not-can_inherit : goal.returns-then-not-can_inherit
returns-then-not-can_inherit c = λ t h m counted. visited_closed c.args.self.under.rows.now t c.args.at c.args.method m _ _ counted (λ d. false≢true (sym c.if-is_declared_in.false ∙ c.is_declared_in.ensures.1 d))
    (λ a. false≢true (sym c.if-not-can_inherit.true ∙ (c.can_inherit.ensures t h).1 a))

pub returns-then-is_replaced : goal.returns-then-is_replaced
returns-then-is_replaced c = λ t h m counted. visited_replaced c.args.self.under.rows.now t c.args.at c.args.method m _ _ counted (λ d. false≢true (sym c.if-is_declared_in.false ∙ c.is_declared_in.ensures.1 d))
    ((c.in_ok-is_replaced.ensures t h m).0 c.if-is_replaced.true)

pub returns : goal.returns
returns c = λ t h m counted. visited_marked c.args.self.under.rows.now t c.args.at c.args.method m h.supers.well.headed _ _ (sym c.has.ensures ∙ c.if-not-has.false) (λ d. false≢true (sym c.if-is_declared_in.false ∙ c.is_declared_in.ensures.1 d))
    ((c.can_inherit.ensures t h).0 c.if-not-can_inherit.false) (λ a. false≢true (sym c.if-is_replaced.false ∙ (c.in_ok-is_replaced.ensures t h m).1 a)) (c.in_ok-mark_supers.ensures t _ h counted)
