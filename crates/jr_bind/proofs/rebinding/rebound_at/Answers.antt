use Rattle.std.proofs.Common.{refl, sym, ◌∙◌, subst, true}
use Rattle.std.proofs.lemmas.Bool.{false≢true}
use Rattle.jr_bind.specs.Confirmed.{rows_of, table_of}
use Rattle.jr_bind.specs.Rebound.{IsSameTarget}
use Rattle.jr_bind.proofs.Locked.{not_locked, kept_at, rebound_is}
use Rattle.jr_bind.proofs.rebinding.rebound_at.Goals as goal

pub returns-then-not-has_lock : goal.returns-then-not-has_lock
returns-then-not-has_lock c = λ can. not_locked (rows_of c.args.sight) (table_of c.args.sight) c.args.at (λ lock. false≢true (sym c.if-not-has_lock.true ∙ c.has_lock.ensures.1 lock))

pub returns-then-is_same_target : goal.returns-then-is_same_target
returns-then-is_same_target c = λ can. kept_at (rows_of c.args.sight) (table_of c.args.sight) c.args.at c.in_ok-found.found
    (c.in_ok-found.ensures (table_of c.args.sight) (record { sight_is = can.sight_is; placed = can.placed; inside = can.inside; same = refl }) (λ needs. can))
    (subst (λ a. IsSameTarget a c.in_ok-found.found) c.referent.ensures (c.is_same_target.ensures.0 c.if-is_same_target.true))

pub returns-else-is_same_target : goal.returns-else-is_same_target
returns-else-is_same_target c = λ can. rebound_is (rows_of c.args.sight) (table_of c.args.sight) c.args.at c.in_ok-found.found (c.has_lock.ensures.0 c.if-not-has_lock.false)
    (c.in_ok-found.ensures (table_of c.args.sight) (record { sight_is = can.sight_is; placed = can.placed; inside = can.inside; same = refl }) (λ needs. can))
    (λ same. false≢true (sym c.if-is_same_target.false ∙ c.is_same_target.ensures.1 (subst (λ a. IsSameTarget a c.in_ok-found.found) (sym c.referent.ensures) same)))
