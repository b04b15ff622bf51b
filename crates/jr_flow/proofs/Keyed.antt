-- Keys tell what they are of.
use Rattle.std.proofs.Common.{◌≡◌, ℕ, zero, suc, Bool, true, false, ◌&&◌, nat_eq, Decides, refl, sym, ◌∙◌, ap, ap₂, subst}
use Rattle.std.proofs.lemmas.Bool.{and_parts, false≢true}
use Rattle.std.proofs.lemmas.Bool.Decides.{Decides-eqb}
use Rattle.jr_plain.specs.Same.{same_pair}
use Rattle.jr_plain.proofs.Same.{pair_tells}
use Rattle.jr_flow_defs.specs.Acts as defs
use Rattle.jr_flow_defs.specs.States as states
use Rattle.jr_flow.specs.declared.acts.Completion.{Completion}
use Rattle.jr_flow.specs.declared.acts.Completion.TheVariants as how
use Rattle.jr_flow.specs.declared.leaving.Moment.{Moment}
use Rattle.jr_flow.specs.declared.leaving.Moment.TheVariants as when
use Rattle.jr_flow.specs.declared.leaving.State.{State}
use Rattle.jr_flow.specs.declared.pending.Waiting.{Waiting}
use Rattle.jr_flow.specs.Seen.{completion_seen}
use Rattle.jr_flow.specs.Places.{moment_seen}
use Rattle.jr_flow.specs.Keys.{completion_key, moment_key, waiting_key, state_key, same_waiting, same_state}

-- ---- what a key is of

abbrev completion_at : ℕ → ℕ → Completion
completion_at zero target = how.Normally
completion_at (suc zero) target = how.Break target
completion_at (suc (suc zero)) target = how.Continue target
completion_at (suc (suc (suc zero))) target = how.Return
completion_at (suc (suc (suc (suc kind)))) target = how.Throw

abbrev moment_at : ℕ → ℕ → Moment
moment_at zero target = when.Completed how.Normally
moment_at (suc zero) target = when.Completed (how.Break target)
moment_at (suc (suc zero)) target = when.Completed (how.Continue target)
moment_at (suc (suc (suc zero))) target = when.Completed how.Return
moment_at (suc (suc (suc (suc zero)))) target = when.Completed how.Throw
moment_at (suc (suc (suc (suc (suc kind))))) act = when.Before act

abbrev completion_from : ℕ × ℕ → Completion
completion_from k = completion_at k.0 k.1

abbrev moment_from : ℕ × ℕ → Moment
moment_from k = moment_at k.0 k.1

completion_back : (c : Completion) → completion_at (completion_key c).0 (completion_key c).1 ≡ c
completion_back how.Normally = refl
completion_back (how.Break target) = refl
completion_back (how.Continue target) = refl
completion_back how.Return = refl
completion_back how.Throw = refl

moment_back : (m : Moment) → moment_at (moment_key m).0 (moment_key m).1 ≡ m
moment_back (when.Before act) = refl
moment_back (when.Completed how.Normally) = refl
moment_back (when.Completed (how.Break target)) = refl
moment_back (when.Completed (how.Continue target)) = refl
moment_back (when.Completed how.Return) = refl
moment_back (when.Completed how.Throw) = refl

pub same_completion : (a b : Completion) → completion_key a ≡ completion_key b → a ≡ b
same_completion a b e = sym (completion_back a) ∙ ap completion_from e ∙ completion_back b

pub same_moment : (a b : Moment) → moment_key a ≡ moment_key b → a ≡ b
same_moment a b e = sym (moment_back a) ∙ ap moment_from e ∙ moment_back b

abbrev waiting_of : Completion → ℕ → Waiting
waiting_of c outer = record { completion = c; outer = outer }

abbrev pub state_of : ℕ → Moment → ℕ → State
state_of row moment list = record { row = row; moment = moment; list = list }

pub waiting_tells : (a b : Waiting) → Decides (same_waiting (waiting_key a) (waiting_key b)) (a ≡ b)
waiting_tells a b = (
  λ e. let both = and_parts (same_pair (completion_key a.completion) (completion_key b.completion)) (nat_eq a.outer b.outer) e in
      ap₂ waiting_of (same_completion a.completion b.completion ((pair_tells (completion_key a.completion) (completion_key b.completion)).0 both.0)) ((Decides-eqb a.outer b.outer).0 both.1),
  λ e. subst (λ x. same_waiting (waiting_key a) (waiting_key x) ≡ true) e
      (ap₂ (λ s t. s && t) ((pair_tells (completion_key a.completion) (completion_key a.completion)).1 refl) ((Decides-eqb a.outer a.outer).1 refl)),
)

pub state_tells : (a b : State) → Decides (same_state (state_key a) (state_key b)) (a ≡ b)
state_tells a b = (
  λ e. let both = and_parts (same_pair (moment_key a.moment) (moment_key b.moment)) (same_pair (a.row, a.list) (b.row, b.list)) e in
      let places = and_parts (nat_eq a.row b.row) (nat_eq a.list b.list) both.1 in
      let moment = same_moment a.moment b.moment ((pair_tells (moment_key a.moment) (moment_key b.moment)).0 both.0) in
      ap₂ (λ row list. state_of row a.moment list) ((Decides-eqb a.row b.row).0 places.0) ((Decides-eqb a.list b.list).0 places.1) ∙ ap (λ m. state_of b.row m b.list) moment,
  λ e. subst (λ x. same_state (state_key a) (state_key x) ≡ true) e
      (ap₂ (λ s t. s && t) ((pair_tells (moment_key a.moment) (moment_key a.moment)).1 refl)
      (ap₂ (λ s t. s && t) ((Decides-eqb a.row a.row).1 refl) ((Decides-eqb a.list a.list).1 refl))),
)

-- ---- what is seen of them

pub completion_once : (a b : Completion) → completion_seen a ≡ completion_seen b → a ≡ b
completion_once a b e = sym (back a) ∙ ap unseen e ∙ back b
  where
    unseen : defs.Completion → Completion
    unseen defs.normally = how.Normally
    unseen (defs.by_break target) = how.Break target
    unseen (defs.by_continue target) = how.Continue target
    unseen defs.by_return = how.Return
    unseen defs.by_throw = how.Throw

    back : (c : Completion) → unseen (completion_seen c) ≡ c
    back how.Normally = refl
    back (how.Break target) = refl
    back (how.Continue target) = refl
    back how.Return = refl
    back how.Throw = refl

pub moment_once : (a b : Moment) → moment_seen a ≡ moment_seen b → a ≡ b
moment_once (when.Before x) (when.Before y) e = ap when.Before (act_of x y e)
  where
    act_of : (x y : ℕ) → states.before x ≡ states.before y → x ≡ y
    act_of x y e = cc
moment_once (when.Before x) (when.Completed c) e = absurd (apart x (completion_seen c) e)
  where
    apart : (x : ℕ) (c : defs.Completion) → states.before x ≡ states.completed c → ⊥
    apart x c e = cc
moment_once (when.Completed c) (when.Before x) e = absurd (apart x (completion_seen c) (sym e))
  where
    apart : (x : ℕ) (c : defs.Completion) → states.before x ≡ states.completed c → ⊥
    apart x c e = cc
moment_once (when.Completed c) (when.Completed d) e = ap when.Completed (completion_once c d (same (completion_seen c) (completion_seen d) e))
  where
    same : (c d : defs.Completion) → states.completed c ≡ states.completed d → c ≡ d
    same c d e = cc
