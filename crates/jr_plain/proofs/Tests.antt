-- A test tells whether something holds; how tests are put together.
use Rattle.std.proofs.Common.{◌≡◌, ◌⊎◌, refl, inl, inr, Bool, true, false, not, ◌&&◌, ◌||◌, Decides}
use Rattle.std.proofs.lemmas.Bool.{false≢true}
use Rattle.std.proofs.lemmas.Bool.Decides.{Decides-and, Decides-or, Decides-not, Decides-like}

pub itself : (b : Bool) → Decides b (b ≡ true)
itself b = (λ h. h, λ h. h)

pub always : Decides true (Unit {0})
always = (λ h. tt, λ h. refl)

pub never : Decides false ⊥
never = (λ h. absurd (false≢true h), λ h. absurd h)

pub both : {a b : Bool} {A B : Type 0} → Decides a A → Decides b B → Decides (a && b) (A × B)
both {a} {b} p q = Decides-and a b p q

pub either : {a b : Bool} {A B : Type 0} → Decides a A → Decides b B → Decides (a || b) (A ⊎ B)
either {a} {b} p q = Decides-or a b p q

pub opposite : {b : Bool} {P : Type 0} → Decides b P → Decides (not b) (P → ⊥)
opposite {b} p = Decides-not b p

pub like : {b : Bool} {P Q : Type 0} → Decides b P → (P → Q) → (Q → P) → Decides b Q
like {b} p f g = Decides-like b f g p

-- where the one holds, the other does
pub implies : {a b : Bool} {A B : Type 0} → Decides a A → Decides b B → Decides (not a || b) (A → B)
implies {a = true} p q = (λ h a. q.0 h, λ f. q.1 (f (p.0 refl)))
implies {a = false} p q = (λ h a. absurd (false≢true (p.1 a)), λ f. refl)

pub decide : {b : Bool} {P : Type 0} → Decides b P → P ⊎ (P → ⊥)
decide {b = true} d = inl (d.0 refl)
decide {b = false} d = inr (λ p. false≢true (d.1 p))
