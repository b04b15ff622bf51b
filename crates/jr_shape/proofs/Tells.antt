-- A test tells whether something holds; how tests are put together.
use Rattle.std.proofs.Common.{◌≡◌, refl, ℕ, ◌≤◌, ◌<◌, Bool, true, false, ◌&&◌, List, [], ◌∷◌, Option, Some, None, leb, ltb}
use Rattle.std.specs.Prelude.{IfSome}
use Rattle.std.specs.List.{list_all, AllByRecursion}
use Rattle.std.specs.Option.{option_map_or}
use Rattle.std.proofs.lemmas.Bool.{false≢true, and_parts, and_from, leb-true, le-leb, ltb-true, lt-ltb}

pub record Tells (b : Bool) (P : Type 0) : Type 0 where
  pub holds : b ≡ true → P
  pub shown : P → b ≡ true

pub itself : (b : Bool) → Tells b (b ≡ true)
itself b = record { holds = λ h. h; shown = λ h. h }

pub always : Tells true (Unit {0})
always = record { holds = λ h. tt; shown = λ h. refl }

pub never : Tells false ⊥
never = record { holds = λ h. absurd (false≢true h); shown = λ h. absurd h }

pub both : {a b : Bool} {A B : Type 0} → Tells a A → Tells b B → Tells (a && b) (A × B)
both {a} {b} p q = record {
  holds = λ h. (p.holds (and_parts a b h).0, q.holds (and_parts a b h).1);
  shown = λ h. and_from a b (p.shown h.0) (q.shown h.1);
}

pub three : {a b c : Bool} {A B C : Type 0} → Tells a A → Tells b B → Tells c C → Tells (a && b && c) (A × B × C)
three {a} {b} {c} p q r =
    let first = both p q in record {
      holds = λ h. let front = first.holds (and_parts (a && b) c h).0 in (front.0, front.1, r.holds (and_parts (a && b) c h).1);
      shown = λ h. and_from (a && b) c (first.shown (h.0, h.1)) (r.shown h.2);
    }

pub four : {a b c d : Bool} {A B C D : Type 0} → Tells a A → Tells b B → Tells c C → Tells d D → Tells (a && b && c && d) (A × B × C × D)
four {a} {b} {c} {d} p q r s =
    let first = three p q r in record {
      holds = λ h. let front = first.holds (and_parts (a && b && c) d h).0 in (front.0, front.1, front.2, s.holds (and_parts (a && b && c) d h).1);
      shown = λ h. and_from (a && b && c) d (first.shown (h.0, h.1, h.2)) (s.shown h.3);
    }

-- the same in other words
pub like : {b : Bool} {P Q : Type 0} → Tells b P → (P → Q) → (Q → P) → Tells b Q
like p f g = record { holds = λ h. f (p.holds h); shown = λ h. p.shown (g h) }

pub least : (a b : ℕ) → Tells (leb a b) (a ≤ b)
least a b = record { holds = leb-true a b; shown = le-leb a b }

pub below : (a b : ℕ) → Tells (ltb a b) (a < b)
below a b = record { holds = ltb-true a b; shown = lt-ltb a b }

pub each : {A : Type 0} (f : A → Bool) (P : A → Type 0) → ((a : A) → Tells (f a) (P a)) → (all : List A) → Tells (list_all f all) (AllByRecursion P all)
each f P tells [] = always
each f P tells (a ∷ all) = both (tells a) (each f P tells all)

pub maybe : {A : Type 0} (f : A → Bool) (P : A → Type 0) → ((a : A) → Tells (f a) (P a)) → (any : Option A) → Tells (option_map_or f any true) (IfSome any P)
maybe f P tells None = always
maybe f P tells (Some a) = tells a
