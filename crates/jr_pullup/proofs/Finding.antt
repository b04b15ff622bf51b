-- What is found is written.
use Rattle.std.proofs.Common.{◌≡◌, refl, sym, ◌∙◌, ap, ⊎_elim, arith, ℕ, zero, suc, ◌+◌, ◌^◌, ◌<◌, Bool, true, false, cond, ◌&&◌, length, Option, Some, None, nat_eq, nat_le}
use Rattle.std.proofs.lemmas.Bool.{false≢true, cases_lt}
use Rattle.std.proofs.lemmas.Option.{none-some, same_Some}
use Rattle.std.specs.Option.{option_or}
use Rattle.jr_tree.specs.declared.label.Role.TheVariants as role
use Rattle.jr_tree.specs.Labels.{role_of}
use Rattle.jr_tree.specs.Rows.{Rows, label, end, parent}
use Rattle.jr_plain.specs.Declarations.{is_class, is_type}
use Rattle.jr_plain.specs.Enclosing.{declaring_type, is_body, is_body_of}
use Rattle.jr_plain.specs.Same.{same_role}
use Rattle.jr_plain.specs.Search.{first_below}
use Rattle.jr_marks.proofs.Firsts.{first_none, label_past}
use Rattle.jr_pullup.specs.Pulling.{is_method, class_by, class_of_method, body_of}

-- both tests pass
both : (a b : Bool) → (a && b) ≡ true → (a ≡ true) × (b ≡ true)
both true b h = (refl, h)
both false b h = absurd (false≢true h)

-- what is found passes
found_passes : (test : ℕ → Bool) (n k : ℕ) → first_below n test ≡ Some k → test k ≡ true
found_passes test zero k h = absurd (none-some k h)
found_passes test (suc n) k h = by (first_below n test) (test n) refl refl (λ f. found_passes test n k f) h
  where
    by : (found : Option ℕ) (b : Bool) → first_below n test ≡ found → test n ≡ b → (first_below n test ≡ Some k → test k ≡ true) → option_or found (cond b (Some n) None) ≡ Some k → test k ≡ true
    by (Some j) b f t before h = before (f ∙ h)
    by None true f t before h = ap test (sym (same_Some n k h)) ∙ t
    by None false f t before h = absurd (none-some k h)

-- ---- bodies

typed_within : (p : Rows) (n : ℕ) → is_type p n ≡ true → n < length p
typed_within p n h = ⊎_elim (λ lt. lt) (λ past. absurd (false≢true (sym (ap (λ label. same_role (role_of label) role.Type) (label_past p n past)) ∙ h))) (cases_lt n (length p))

-- the type whose body is found is written
pub body_type : (p : Rows) (c b : ℕ) → is_body_of p c b ≡ true → c < length p
body_type p c b h = typed_within p c (both _ _ (both _ _ h).0).0

body_within : (p : Rows) (c b : ℕ) → is_body_of p c b ≡ true → b < length p
body_within p c b h = ⊎_elim (λ lt. lt) (λ past. absurd (false≢true (sym (ap is_body (label_past p b past)) ∙ (both _ _ (both _ _ h).0).1))) (cases_lt b (length p))

-- the body that is found is written
pub found_within : (p : Rows) (c b : ℕ) → body_of p c ≡ Some b → b < length p
found_within p c b h = body_within p c b (both _ _ (found_passes (λ b. nat_le c b && is_body_of p c b) (end p c) b h)).1

-- no row is the body of what is not written
untyped : (p : Rows) (c : ℕ) → length p < c + 1 → is_type p c ≡ false
untyped p c past = ap (λ label. same_role (role_of label) role.Type) (label_past p c (omega arith))

pub body_none : (p : Rows) (c last : ℕ) → length p < 2 ^ 32 → (c + 1 < 2 ^ 32 → last ≡ end p c) → ((k : ℕ) → k < last → (nat_le c k && is_body_of p c k) ≡ false) → None ≡ body_of p c
body_none p c last few is fails = sym (⊎_elim
    (λ lt. let same = is (omega arith) in first_none (λ b. nat_le c b && is_body_of p c b) (end p c) (λ k below. fails k (omega arith)))
    (λ past. first_none (λ b. nat_le c b && is_body_of p c b) (end p c) (λ k below. none (is_type p c) (is_body (label p k)) (nat_le c k) (nat_eq (parent p k) c) (untyped p c (omega arith))))
    (cases_lt c (length p)))
  where
    none : (a b d e : Bool) → a ≡ false → (d && (a && b && e)) ≡ false
    none false b true e h = refl
    none false b false e h = refl
    none true b d e h = absurd (false≢true (sym h))

-- ---- methods

method_within : (p : Rows) (d : ℕ) → is_method p d ≡ true → d < length p
method_within p d h = ⊎_elim (λ lt. lt) (λ past. absurd (false≢true (sym (ap (λ label. same_role (role_of label) role.Method) (label_past p d past)) ∙ h))) (cases_lt d (length p))

-- a method of a class is written
pub class_within : (p : Rows) (d c : ℕ) → class_of_method p d ≡ Some c → d < length p
class_within p d c h = by (declaring_type p d) h
  where
    passed : (b : Bool) (over : ℕ) → cond b (Some over) None ≡ Some c → b ≡ true
    passed true over h = refl
    passed false over h = absurd (none-some c h)

    by : (over : Option ℕ) → class_by p d over ≡ Some c → d < length p
    by None h = absurd (none-some c h)
    by (Some over) h = method_within p d (both (is_method p d) (is_class p over) (passed _ over h)).0
