-- Searches by halves.
use Rattle.std.proofs.Common.{◌≡◌, refl, sym, ◌∙◌, ap, ⊎_elim, arith, ℕ, zero, suc, ◌+◌, ◌<◌, ◌≤◌, Bool, true, false, cond, List, [], ◌∷◌, length, get_or, nat_le, nat_lt, ◌&&◌, Option, Some, None}
use Rattle.std.proofs.lemmas.Bool.{false≢true, cases_lt}
use Rattle.std.proofs.lemmas.List.{get_or_read}
use Rattle.std.proofs.lemmas.List.Recursion.{is_count_by}
use Rattle.std.proofs.lemmas.Option.{get_or_from_slice_get, slice_get_past, slice_get_within}
use Rattle.std.proofs.lemmas.Bool.Decides.{leb_tells}
use Rattle.std.specs.List.Sorted.{IsNonDecreasing}
use Rattle.jr_base.specs.declared.token.Token.{Token}
use Rattle.std.specs.List.{slice_get}
use Rattle.std.specs.Prelude.{IfSome}
use Rattle.jr_marks.specs.Places.{count_to, AreApart, IsCut, holds, is_identifier, identifier_at}
use Rattle.jr_marks.proofs.Firsts.{first_none, first_some}

-- ---- numbers

pub record CutAt (xs : List ℕ) (n low high : ℕ) : Type 0 where
  pub before : (k : ℕ) → k < low → get_or xs k 0 ≤ n
  pub behind : (k : ℕ) → high ≤ k → k < length xs → n < get_or xs k 0

-- where a search stands
pub record Halved (xs : List ℕ) (n low high : ℕ) : Type 0 where
  pub rise : low ≤ high
  pub within : high ≤ length xs
  pub cut : IsNonDecreasing xs → CutAt xs n low high

pub halved_start : (xs : List ℕ) (n : ℕ) → Halved xs n 0 (length xs)
halved_start xs n = record { rise = omega arith; within = omega arith; cut = λ sorted. record { before = λ k lt. absurd (omega arith); behind = λ k le lt. absurd (omega arith) } }

pub halved_low : {xs : List ℕ} {n low high : ℕ} (middle : ℕ) → Halved xs n low high → low ≤ middle → middle < high → get_or xs middle 0 ≤ n → Halved xs n (middle + 1) high
halved_low {xs = xs} {n = n} middle h a b le = let w = h.within in record {
  rise = omega arith;
  within = h.within;
  cut = λ sorted. record { before = λ k lt. let s = sorted k middle 0 (omega arith) (omega arith) in omega arith; behind = (h.cut sorted).behind };
}

pub halved_high : {xs : List ℕ} {n low high : ℕ} (middle : ℕ) → Halved xs n low high → low ≤ middle → middle < high → n < get_or xs middle 0 → Halved xs n low middle
halved_high {xs = xs} {n = n} middle h a b lt = let w = h.within in record {
  rise = a;
  within = omega arith;
  cut = λ sorted. record { before = (h.cut sorted).before; behind = λ k le in_list. let s = sorted middle k 0 le in_list in omega arith };
}

abbrev counting : (ℕ → Bool) → List ℕ → ℕ
counting f [] = 0
counting f (x ∷ xs) = cond (f x) (1 + counting f xs) (counting f xs)

counts : (b : Bool) (n count : ℕ) → b ≡ true → n ≡ count → suc n ≡ cond b (1 + count) count
counts true n count h e = omega arith
counts false n count h e = absurd (false≢true h)

counts_not : (b : Bool) (count : ℕ) → b ≡ false → zero ≡ count → zero ≡ cond b (1 + count) count
counts_not false count h e = e
counts_not true count h e = absurd (false≢true (sym h))

counted : (f : ℕ → Bool) (xs : List ℕ) (n : ℕ) → n ≤ length xs → ((k : ℕ) → k < n → f (get_or xs k 0) ≡ true) → ((k : ℕ) → n ≤ k → k < length xs → f (get_or xs k 0) ≡ false) → n ≡ counting f xs
counted f [] n le low high = omega arith
counted f (x ∷ xs) zero le low high = counts_not (f x) (counting f xs) (high 0 (omega arith) (omega arith))
    (counted f xs zero (omega arith) (λ k lt. absurd (omega arith)) (λ k at lt. high (suc k) (omega arith) (omega arith)))
counted f (x ∷ xs) (suc n) le low high = counts (f x) n (counting f xs) (low 0 (omega arith))
    (counted f xs n (omega arith) (λ k lt. low (suc k) (omega arith)) (λ k at lt. high (suc k) (omega arith) (omega arith)))

passes : (a b : ℕ) → a ≤ b → nat_le a b ≡ true
passes a b le = ⊎_elim (λ h. h.0) (λ h. let lt : b < a = h.1 in absurd (omega arith)) (leb_tells a b)

fails : (a b : ℕ) → b < a → nat_le a b ≡ false
fails a b lt = ⊎_elim (λ h. let le : a ≤ b = h.1 in absurd (omega arith)) (λ h. h.0) (leb_tells a b)

pub halved_end : {xs : List ℕ} {n low high : ℕ} → Halved xs n low high → high ≤ low → IsNonDecreasing xs → low ≡ count_to xs n
halved_end {xs = xs} {n = n} {low = low} {high = high} h done sorted = let w = h.within in let r = h.rise in let cut = h.cut sorted in
    counted (λ k. nat_le k n) xs low (omega arith)
    (λ k lt. passes (get_or xs k 0) n (cut.before k lt)) (λ k at lt. fails (get_or xs k 0) n (cut.behind k (omega arith) lt))
    ∙ is_count_by (counting (λ k. nat_le k n)) (λ k. nat_le k n) refl (λ x xs. refl) xs

-- ---- tokens

pub record TokensCut (ts : List Token) (offset low high : ℕ) : Type 0 where
  pub before : (k : ℕ) (d : Token) → k < low → (get_or ts k d).span.end ≤ offset
  pub behind : (k : ℕ) (d : Token) → high ≤ k → k < length ts → offset < (get_or ts k d).span.end

pub record TokensHalved (ts : List Token) (offset low high : ℕ) : Type 0 where
  pub rise : low ≤ high
  pub within : high ≤ length ts
  pub cut : AreApart ts → TokensCut ts offset low high

pub tokens_start : (ts : List Token) (offset : ℕ) → TokensHalved ts offset 0 (length ts)
tokens_start ts offset = record { rise = omega arith; within = omega arith; cut = λ apart. record { before = λ k d lt. absurd (omega arith); behind = λ k d le lt. absurd (omega arith) } }

-- ends rise
ends_rise : (ts : List Token) → AreApart ts → (j k : ℕ) (d : Token) → j ≤ k → k < length ts → (get_or ts j d).span.end ≤ (get_or ts k d).span.end
ends_rise ts h j k d le lt = ⊎_elim (λ before. let a = h.apart j k d before lt in let w = h.whole k d lt in omega arith) (λ after. let same : j ≡ k = omega arith in let e = ap (λ k. (get_or ts k d).span.end) same in omega arith) (cases_lt j k)

end_at : (ts : List Token) (k : ℕ) (t d : Token) → k < length ts → t ≡ get_or ts k t → (get_or ts k d).span.end ≡ t.span.end
end_at ts k t d lt is = ap (λ t. t.span.end) (sym (get_or_read ts k t lt is d))

pub tokens_low : {ts : List Token} {offset low high : ℕ} (middle : ℕ) (t : Token) → TokensHalved ts offset low high → low ≤ middle → middle < high → t ≡ get_or ts middle t → t.span.end ≤ offset → TokensHalved ts offset (middle + 1) high
tokens_low {ts = ts} middle t h a b is le = let w = h.within in record {
  rise = omega arith;
  within = h.within;
  cut = λ apart. record {
    before = λ k d lt. let s = ends_rise ts apart k middle d (omega arith) (omega arith) in let e = end_at ts middle t d (omega arith) is in omega arith;
    behind = (h.cut apart).behind;
  };
}

pub tokens_high : {ts : List Token} {offset low high : ℕ} (middle : ℕ) (t : Token) → TokensHalved ts offset low high → low ≤ middle → middle < high → t ≡ get_or ts middle t → offset < t.span.end → TokensHalved ts offset low middle
tokens_high {ts = ts} middle t h a b is lt = let w = h.within in record {
  rise = a;
  within = omega arith;
  cut = λ apart. record {
    before = (h.cut apart).before;
    behind = λ k d le in_list. let s = ends_rise ts apart middle k d le in_list in let e = end_at ts middle t d (omega arith) is in omega arith;
  };
}

pub tokens_end : {ts : List Token} {offset low high : ℕ} → TokensHalved ts offset low high → high ≤ low → AreApart ts → IsCut ts offset low
tokens_end h done apart = let r = h.rise in let cut = h.cut apart in record { before = cut.before; behind = λ k d le lt. cut.behind k d (omega arith) lt }

no_last : (a b : Bool) → (a && b && false) ≡ false
no_last true true = refl
no_last true false = refl
no_last false b = refl

no_middle : (a c : Bool) → (a && false && c) ≡ false
no_middle true c = refl
no_middle false c = refl

-- a token that ends at the offset or before it, or begins behind it, does not hold it
early : (offset : ℕ) (found : Option Token) → ((t : Token) → found ≡ Some t → t.span.end ≤ offset) → holds offset found ≡ false
early offset None h = refl
early offset (Some t) h = ap (λ b. is_identifier t.kind && nat_le t.span.start offset && b) (let le = h t refl in fails (suc offset) t.span.end (omega arith)) ∙ no_last (is_identifier t.kind) (nat_le t.span.start offset)

late : (offset : ℕ) (found : Option Token) → ((t : Token) → found ≡ Some t → offset < t.span.start) → holds offset found ≡ false
late offset None h = refl
late offset (Some t) h = ap (λ b. is_identifier t.kind && b && nat_lt offset t.span.end) (fails t.span.start offset (h t refl)) ∙ no_middle (is_identifier t.kind) (nat_lt offset t.span.end)

module _ {ts : List Token} {offset n : ℕ} (apart : AreApart ts) (cut : IsCut ts offset n) where
  before_fails : (k : ℕ) → k < n → holds offset (slice_get ts k) ≡ false
  before_fails k lt = early offset (slice_get ts k) (λ t is. let e = ap (λ t. t.span.end) (get_or_from_slice_get ts k t t is) in let c = cut.before k t lt in omega arith)

  behind_fails : (k : ℕ) → n < k → holds offset (slice_get ts k) ≡ false
  behind_fails k lt = late offset (slice_get ts k) (λ t is.
      let inside = slice_get_within ts k t is in
      let e = ap (λ t. t.span.start) (get_or_from_slice_get ts k t t is) in let c = cut.behind n t (omega arith) (omega arith) in let a = apart.apart n k t lt inside in omega arith)

  pub cut_some : n < length ts → holds offset (slice_get ts n) ≡ true → Some n ≡ identifier_at ts offset
  cut_some lt h = sym (first_some (λ n. holds offset (slice_get ts n)) (length ts) n lt h before_fails)

  pub cut_none : holds offset (slice_get ts n) ≡ false → None ≡ identifier_at ts offset
  cut_none h = sym (first_none (λ n. holds offset (slice_get ts n)) (length ts) (λ k lt.
      ⊎_elim (before_fails k) (λ le. ⊎_elim (behind_fails k) (λ same. let e : k ≡ n = omega arith in ap (λ k. holds offset (slice_get ts k)) e ∙ h) (cases_lt n k)) (cases_lt k n)))

-- both tests pass
pub from_passes : (a b : ℕ) (t : Bool) → a ≤ b → t ≡ true → (nat_le a b && t) ≡ true
from_passes a b t le h = ap (λ s. s && t) (passes a b le) ∙ h

right_fails : (a b : Bool) → b ≡ false → (a && b) ≡ false
right_fails true b h = h
right_fails false b h = refl

-- one number more fails both tests
pub more_fails : (first test : ℕ → Bool) (n : ℕ) → ((k : ℕ) → k < n → (first k && test k) ≡ false) → test n ≡ false → (k : ℕ) → k < n + 1 → (first k && test k) ≡ false
more_fails first test n before now k lt = ⊎_elim (λ below. before k below) (λ le. let same : k ≡ n = omega arith in ap (λ k. first k && test k) same ∙ right_fails (first n) (test n) now) (cases_lt k n)

-- what holds the offset is a token
pub holds_within : (ts : List Token) (n offset : ℕ) → true ≡ holds offset (slice_get ts n) → n < length ts
holds_within ts n offset h = ⊎_elim (λ lt. lt) (λ past. absurd (false≢true (sym (h ∙ ap (holds offset) (slice_get_past ts n past))))) (cases_lt n (length ts))

pub some_within : (found : Option ℕ) (n count : ℕ) → IfSome found (λ k. k ≡ n) → n < count → IfSome found (λ k. k < count)
some_within None n count h lt = tt
some_within (Some k) n count h lt = omega arith
