-- A test that tells whether a number is within a bound; how such tests are put together.
use Rattle.std.proofs.Common.{◌≡◌, refl, sym, ap, ◌∙◌, ℕ, zero, suc, ◌-◌, max, Bool, true, false, ◌&&◌, List, [], ◌∷◌, Option, Some, None, leb, ltb, arith}
use Rattle.std.proofs.Math.Dec.{leb-zero, leb-suc-zero, leb-suc-suc}
use Rattle.std.proofs.Math.Nat.{max-zero, zero-max}
use Rattle.std.specs.List.{list_all}
use Rattle.std.specs.Option.{option_map_or}
use Rattle.std.proofs.lemmas.Bool.Decides.{nat_tests}
use Rattle.jr_tree.specs.Depth.{deepest}

pub record IsWithin (b : Bool) (a n : ℕ) : Type 0 where
  pub is : b ≡ leb a n

less : (a n : ℕ) → (ltb 0 n && leb a (n - 1)) ≡ leb (suc a) n
less a zero = sym (leb-suc-zero a)
less a (suc m) = let e : suc m - 1 ≡ m = omega arith in rw (e, leb-suc-suc 0 m, leb-zero m) (sym (leb-suc-suc a m))

both_le : (a b n : ℕ) → (leb a n && leb b n) ≡ leb (max a b) n
both_le a b n = grind (arith, nat_tests)

and_assoc : (p q r : Bool) → (p && q && r) ≡ (p && (q && r))
and_assoc true q r = refl
and_assoc false q r = refl

pub none : (n : ℕ) → IsWithin true 0 n
none n = record { is = sym (leb-zero n) }

pub one : {p : Bool} {a : ℕ} (n : ℕ) → IsWithin p a (n - 1) → IsWithin (ltb 0 n && p) (suc a) n
one {p} {a} n e = record { is = ap (λ (b : Bool). ltb 0 n && b) e.is ∙ less a n }

pub leaf : (n : ℕ) → IsWithin (ltb 0 n && true) 1 n
leaf n = one n (none (n - 1))

pub join : {p q : Bool} {a b : ℕ} (n : ℕ) → IsWithin p a n → IsWithin q b n → IsWithin (p && q) (max a b) n
join {p} {q} {a} {b} n e f = record { is = ap (λ (v : Bool). v && q) e.is ∙ ap (λ (v : Bool). leb a n && v) f.is ∙ both_le a b n }

pub join3 : {p q r : Bool} {a b c : ℕ} (n : ℕ) → IsWithin p a n → IsWithin q b n → IsWithin r c n → IsWithin (p && q && r) (max a (max b c)) n
join3 {p} {q} {r} n e f g = record { is = and_assoc p q r ∙ (join n e (join n f g)).is }

pub join4 : {p q r s : Bool} {a b c d : ℕ} (n : ℕ) → IsWithin p a n → IsWithin q b n → IsWithin r c n → IsWithin s d n → IsWithin (p && q && r && s) (max a (max b (max c d))) n
join4 {p} {q} {r} {s} n e f g h = record { is = and_assoc (p && q) r s ∙ and_assoc p q (r && s) ∙ (join n e (join n f (join n g h))).is }

-- beside nothing
pub first : {p : Bool} {a : ℕ} (n : ℕ) → IsWithin p a n → IsWithin p (max a 0) n
first {p} {a} n e = record { is = rw (max-zero a) e.is }

pub last : {p : Bool} {a : ℕ} (n : ℕ) → IsWithin p a n → IsWithin p (max 0 a) n
last {p} {a} n e = record { is = rw (zero-max a) e.is }

-- the test of the second first
pub turn : {p q : Bool} {a b : ℕ} (n : ℕ) → IsWithin p a n → IsWithin q b n → IsWithin (q && p) (max a b) n
turn {p} {q} {a} {b} n e f = let same : max a b ≡ max b a = omega arith in record { is = rw same (join n f e).is }

pub each : {A : Type 0} (f : A → Bool) (d : A → ℕ) (n : ℕ) → ((a : A) → IsWithin (f a) (d a) n) → (all : List A) → IsWithin (list_all f all) (deepest d all) n
each f d n tells [] = none n
each f d n tells (a ∷ all) = join n (tells a) (each f d n tells all)

pub maybe : {A : Type 0} (f : A → Bool) (d : A → ℕ) (n : ℕ) → ((a : A) → IsWithin (f a) (d a) n) → (any : Option A) → IsWithin (option_map_or f any true) (option_map_or d any 0) n
maybe f d n tells None = none n
maybe f d n tells (Some a) = tells a
