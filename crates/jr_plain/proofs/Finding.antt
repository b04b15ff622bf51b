-- What is found by parts of what is found.
use Rattle.std.proofs.Common.{◌≡◌, refl, sym, ◌∙◌, ap, subst, Bool, true, false, cond, Option, Some, None, option_map, option_and_then, Decides}
use Rattle.std.proofs.lemmas.Bool.{false≢true}
use Rattle.std.proofs.lemmas.Option.{none-some, same_Some}
use Rattle.jr_plain.specs.Search.{Finds}
use Rattle.jr_plain.specs.Conversions.{of_two}

module _ {A : Type 0} where
  pub some_finds : (a : A) → Finds (Some a) (λ x. a ≡ x)
  some_finds a x = (λ e. same_Some a x e, λ e. ap Some e)

  pub none_finds : Finds {A = A} None (λ x. ⊥)
  none_finds x = (λ e. none-some x e, λ h. absurd h)

  pub like_finds : {P Q : A → Type 0} (found : Option A) → Finds found P → ((x : A) → P x → Q x) → ((x : A) → Q x → P x) → Finds found Q
  like_finds found finds out into x = (λ e. out x ((finds x).0 e), λ h. (finds x).1 (into x h))

  -- where a test lets it through
  pub guard_finds : {P : Type 0} {Q : A → Type 0} (b : Bool) (found : Option A) → Decides b P → Finds found Q → Finds (cond b found None) (λ x. P × Q x)
  guard_finds true found d finds x = (λ e. (d.0 refl, (finds x).0 e), λ h. (finds x).1 h.1)
  guard_finds false found d finds x = (λ e. absurd (none-some x e), λ h. absurd (false≢true (d.1 h.0)))

  module _ {B : Type 0} where
    pub map_finds : {P : A → Type 0} (f : A → B) (found : Option A) → Finds found P → Finds (option_map f found) (λ b. (a : A) × P a × (f a ≡ b))
    map_finds f None finds b = (λ e. absurd (none-some b e), λ h. absurd (none-some h.0 ((finds h.0).1 h.1)))
    map_finds f (Some a) finds b = (λ e. (a, (finds a).0 refl, same_Some (f a) b e), λ h. ap (λ x. Some (f x)) (same_Some a h.0 ((finds h.0).1 h.1)) ∙ ap Some h.2)

    pub then_finds : {P : A → Type 0} {Q : A → B → Type 0} (f : A → Option B) (found : Option A) → Finds found P → ((a : A) → Finds (f a) (Q a)) → Finds (option_and_then f found) (λ b. (a : A) × P a × Q a b)
    then_finds f None finds each b = (λ e. absurd (none-some b e), λ h. absurd (none-some h.0 ((finds h.0).1 h.1)))
    then_finds {P} {Q} f (Some a) finds each b = (λ e. (a, (finds a).0 refl, (each a b).0 e), λ h. (each a b).1 (subst (λ x. Q x b) (sym (same_Some a h.0 ((finds h.0).1 h.1))) h.2))

    -- what two that are found give
    pub two_finds : {C : Type 0} {P : A → Type 0} {Q : B → Type 0} (F : A → B → C → Type 0) (f : A → B → Option C) → ((a : A) (b : B) → Finds (f a b) (λ r. F a b r))
        → (found : Option A) (other : Option B) → Finds found P → Finds other Q → Finds (of_two f found other) (λ r. (a : A) × (b : B) × P a × Q b × F a b r)
    two_finds F f each None other i j r = (λ e. absurd (none-some r e), λ h. absurd (none-some h.0 ((i h.0).1 h.2)))
    two_finds F f each (Some a) None i j r = (λ e. absurd (none-some r e), λ h. absurd (none-some h.1 ((j h.1).1 h.3)))
    two_finds F f each (Some a) (Some b) i j r = (
      λ e. (a, b, (i a).0 refl, (j b).0 refl, (each a b r).0 e),
      λ h. (each a b r).1 (subst (λ x. F x b r) (sym (same_Some a h.0 ((i h.0).1 h.2))) (subst (λ x. F h.0 x r) (sym (same_Some b h.1 ((j h.1).1 h.3))) h.4)),
    )
