-- What is found of children and referents, and which member holds a place.
use Rattle.std.proofs.Common.{◌≡◌, ap, ⊎_elim, arith, ℕ, ◌+◌, ◌≤◌, ◌<◌, Bool, false, length, Option, Some, nat_eq, Decides}
use Rattle.std.specs.Option.{option_map_or}
use Rattle.std.proofs.lemmas.Bool.{cases_lt}
use Rattle.std.proofs.lemmas.Bool.Decides.{Decides-eqb, Decides-ltb}
use Rattle.std.proofs.lemmas.Option.{none-some, same_Some}
use Rattle.jr_tree.specs.Rows.{Rows, parent, end}
use Rattle.jr_defs.specs.declared.referent.RowType.{RowType}
use Rattle.jr_defs.specs.declared.referent.Referent.{Referent}
use Rattle.jr_defs.specs.declared.referent.Referent.TheVariants.{Declared}
use Rattle.jr_defs.specs.Referents.{Table}
use Rattle.jr_defs.specs.Enclosing.{BodyOf}
use Rattle.jr_defs.specs.Conversions.{IsIntegral}
use Rattle.jr_plain.specs.Search.{Finds}
use Rattle.jr_plain.specs.Conversions.{is_integral}
use Rattle.jr_plain.specs.Instances.{is_member_round}
use Rattle.jr_plain.specs.Overloads.{Types}
use Rattle.jr_plain.specs.Typing.{child, first, second, third}
use Rattle.jr_plain.specs.Types.{type_at}
use Rattle.jr_plain.proofs.Tests.{both, like}
use Rattle.jr_plain.proofs.Bounds.{parent_past, body_below}
use Rattle.jr_plain.proofs.Enclosed.{most, body_tells}
use Rattle.jr_plain.proofs.Typed.{type_finds}
use Rattle.jr_plain.proofs.Modified.{found_tells}
use Rattle.jr_plain.proofs.Finding.{like_finds, guard_finds}
use Rattle.jr_plain.proofs.Converted.{integral_tells, is_plain_tells}
use Rattle.jr_rules.specs.Typed.{Typed, ChildOf, FirstOf, SecondOf, ThirdOf, TypeBelow, IsIntLike}
use Rattle.jr_rules.specs.TypedTests.{type_below, is_int_like, declared_row, both_found}

-- the row of a declaration
pub declared_finds : (a : Referent) → Finds (declared_row a) (λ d. (level : Option ℕ) × (a ≡ Declared d level))
declared_finds (Declared d level) x = (λ e. (level, ap (λ r. Declared r level) (same_Some d x e)), λ h. let e = h.1 in ap Some (row_of e))
  where
    row_of : {a b : ℕ} {l m : Option ℕ} → Declared a l ≡ Declared b m → a ≡ b
    row_of e = cc
declared_finds _ x = (λ e. absurd (none-some x e), λ h. let e = h.1 in absurd (cc))

-- two that are found pass a test
module _ {A B : Type 0} (P : A → Type 0) (Q : B → Type 0) where
  pub both_found_tells : (test : A → B → Bool) (R : A → B → Type 0) → ((a : A) (b : B) → Decides (test a b) (R a b)) → (one : Option A) (other : Option B) → Finds one P → Finds other Q
      → Decides (both_found one other test) ((a : A) × P a × ((b : B) × Q b × R a b))
  both_found_tells test R tells one other i j = found_tells P (λ a. option_map_or (λ b. test a b) other false) (λ a. (b : B) × Q b × R a b)
      (λ a. found_tells Q (λ b. test a b) (λ b. R a b) (tells a) other j) one i

pub int_like_tells : (a : RowType) → Decides (is_int_like a) (IsIntLike a)
int_like_tells a = like (is_plain_tells IsIntegral is_integral integral_tells a) (λ h. record { element = h.0; is_plain = h.1; integral = h.2 }) (λ h. (h.element, h.is_plain, h.integral))

pub type_below_finds : (p : Rows) (t : Table) (n m : ℕ) → Finds (type_below p t n m) (λ a. TypeBelow p t n m a)
type_below_finds p t n m = like_finds (type_below p t n m) (guard_finds (nat_eq (parent p m) n) (type_at p t m) (Decides-eqb (parent p m) n) (type_finds p t m))
    (λ a h. record { inside = h.0; written = h.1 }) (λ a h. (h.inside, h.written))

module _ (p : Rows) (t : Table) (type_of : Types) (typed : (n : ℕ) → Finds (type_of n) (λ a. Typed p t n a)) where
  child_finds : (n m : ℕ) → Finds (child p type_of n m) (λ a. ChildOf p t n m a)
  child_finds n m = like_finds (child p type_of n m) (guard_finds (nat_eq (parent p m) n) (type_of m) (Decides-eqb (parent p m) n) (typed m))
      (λ a h. record { inside = h.0; typed = h.1 }) (λ a h. (h.inside, h.typed))

  pub first_finds : (n : ℕ) → Finds (first p type_of n) (λ a. FirstOf p t n a)
  first_finds n = child_finds n (n + 1)

  pub second_finds : (n : ℕ) → Finds (second p type_of n) (λ a. SecondOf p t n a)
  second_finds n = child_finds n (end p (n + 1))

  pub third_finds : (n : ℕ) → Finds (third p type_of n) (λ a. ThirdOf p t n a)
  third_finds n = child_finds n (end p (end p (n + 1)))

-- the row m right below the body of c holds the place
abbrev pub Round : Rows → ℕ → ℕ → ℕ → Type 0
Round p o c m = (BodyOf p c (parent p m) × (m ≤ o)) × (o < end p m)

pub round_tells : (p : Rows) (o c m : ℕ) → Decides (is_member_round p o c m) (Round p o c m)
round_tells p o c m = both (both (body_tells p c (parent p m)) (most m o)) (Decides-ltb o (end p m))

pub member_row : (p : Rows) (c m : ℕ) → BodyOf p c (parent p m) → m < length p
member_row p c m h = ⊎_elim (λ lt. lt) (λ le. let e = parent_past p m le in let lt = body_below p c (parent p m) h in absurd (omega arith)) (cases_lt m (length p))
