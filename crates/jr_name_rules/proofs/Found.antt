-- What is found of referents and imports, and tests on it.
use Rattle.std.proofs.Common.{◌≡◌, sym, ap, subst, arith, ℕ, zero, suc, ◌+◌, Bool, false, Option, Some, Decides}
use Rattle.std.specs.Option.{option_map_or}
use Rattle.std.proofs.lemmas.Option.{none-some, same_Some}
use Rattle.std.proofs.lemmas.Slice.Eq.{bytes_eq-Decides}
use Rattle.jr_tree.specs.Rows.{Rows, name}
use Rattle.jr_defs.specs.declared.referent.Referent.{Referent}
use Rattle.jr_defs.specs.declared.referent.Referent.TheVariants.{Declared}
use Rattle.jr_defs.specs.Referents.{Table}
use Rattle.jr_defs.specs.Declarations.{IsType}
use Rattle.jr_defs.specs.Imports.{ImportNames}
use Rattle.jr_plain.specs.Search.{Finds}
use Rattle.jr_plain.specs.Declarations.{is_type}
use Rattle.jr_plain.specs.Types.{referred_type}
use Rattle.jr_plain.proofs.Tests.{like, never}
use Rattle.jr_plain.proofs.Declared.{type_tells}
use Rattle.jr_plain.proofs.Modified.{found_tells}
use Rattle.jr_plain.proofs.Finding.{some_finds, like_finds, guard_finds}
use Rattle.jr_name_rules.specs.Found.{declared_row, both_found, is_next, is_same_name, imported_type}

row_of : {a b : ℕ} {l m : Option ℕ} → Declared a l ≡ Declared b m → a ≡ b
row_of e = cc

-- the row of a declaration
pub declared_finds : (a : Referent) → Finds (declared_row a) (λ d. (level : Option ℕ) × (a ≡ Declared d level))
declared_finds (Declared d level) x = (λ e. (level, ap (λ r. Declared r level) (same_Some d x e)), λ h. let e = h.1 in ap Some (row_of e))
declared_finds _ x = (λ e. absurd (none-some x e), λ h. let e = h.1 in absurd (cc))

-- two that are found pass a test
module _ {A B : Type 0} (P : A → Type 0) (Q : B → Type 0) where
  pub both_found_tells : (test : A → B → Bool) (R : A → B → Type 0) → ((a : A) (b : B) → Decides (test a b) (R a b)) → (one : Option A) (other : Option B) → Finds one P → Finds other Q
      → Decides (both_found one other test) ((a : A) × P a × ((b : B) × Q b × R a b))
  both_found_tells test R tells one other i j = found_tells P (λ a. option_map_or (λ b. test a b) other false) (λ a. (b : B) × Q b × R a b)
      (λ a. found_tells Q (λ b. test a b) (λ b. R a b) (tells a) other j) one i

-- the row before is such
pub next_tells : (test : ℕ → Bool) (P : ℕ → Type 0) → ((k : ℕ) → Decides (test k) (P k)) → (n : ℕ) → Decides (is_next test n) ((k : ℕ) × P k × (k + 1 ≡ n))
next_tells test P tells zero = like never (λ h. absurd h) (λ h. let e = h.2 in absurd (omega arith))
next_tells test P tells (suc n) = like (tells n) (λ h. (n, h, omega arith)) (λ h. let e = h.2 in let same : h.0 ≡ n = omega arith in subst P same h.1)

pub same_name_tells : (p : Rows) (d e : ℕ) → Decides (is_same_name p d e) (name p d ≡ name p e)
same_name_tells p d e = bytes_eq-Decides (name p d) (name p e)

referred_finds : (p : Rows) (a : Referent) → Finds (referred_type p a) (λ c. ((level : Option ℕ) × (a ≡ Declared c level)) × IsType p c)
referred_finds p (Declared d level) = like_finds (referred_type p (Declared d level)) (guard_finds (is_type p d) (Some d) (type_tells p d) (some_finds d))
    (λ c h. ((level, ap (λ x. Declared x level) h.1), subst (λ x. IsType p x) h.1 h.0)) (λ c h. let e = row_of h.0.1 in (subst (λ x. IsType p x) (sym e) h.1, e))
referred_finds p _ = λ c. (λ e. absurd (none-some c e), λ h. let e = h.0.1 in absurd (cc))

-- the type that an import names
pub imported_finds : (p : Rows) (t : Table) (i : ℕ) → Finds (imported_type p t i) (λ c. ImportNames p t i c)
imported_finds p t i = like_finds (imported_type p t i) (referred_finds p (t (i + 1))) (λ c h. record { level = h.0.0; refers = h.0.1; type = h.1 }) (λ c h. ((h.level, h.refers), h.type))
