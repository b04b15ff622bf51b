-- Lists that are pushed one item after another: rows that follow each other, and the first items of a list.
use Rattle.std.proofs.Common.{◌≡◌, refl, sym, ◌∙◌, ap, arith, ℕ, zero, suc, ◌+◌, ◌-◌, ◌<◌, ◌≤◌, List, [], ◌∷◌, ◌++◌, take, append_assoc, append-nil}
use Rattle.std.specs.List.{range_with_len}

-- behind what was there these are the rows before at, and those up to the end follow
pub record RangeTo (old : List ℕ) (first end at : ℕ) (done : List ℕ) : Type 0 where
  pub rest : done ++ range_with_len at (end - at) ≡ old ++ range_with_len first (end - first)

pub range_more : {old : List ℕ} {first end at : ℕ} {done : List ℕ} (more : List ℕ) → RangeTo old first end at done → at < end → more ≡ done ++ at ∷ [] → RangeTo old first end (at + 1) more
range_more {end = end} {at = at} {done = done} more before lt pushed = record {
  rest = ap (λ xs. xs ++ range_with_len (at + 1) (end - (at + 1))) pushed ∙ append_assoc done (at ∷ []) (range_with_len (at + 1) (end - (at + 1)))
      ∙ ap (λ m. done ++ range_with_len at m) room ∙ before.rest;
}
  where
    room : suc (end - (at + 1)) ≡ end - at
    room = omega arith

pub range_end : {old : List ℕ} {first end at : ℕ} {done : List ℕ} → RangeTo old first end at done → end ≤ at → done ≡ old ++ range_with_len first (end - first)
range_end {end = end} {at = at} {done = done} before le = sym (append-nil done) ∙ ap (λ m. done ++ range_with_len at m) none ∙ before.rest
  where
    none : 0 ≡ end - at
    none = omega arith

-- behind what was there these are the first items, and of the rest so many follow
pub record FirstTo (old : List ℕ) (most : ℕ) (some : List ℕ) (left : ℕ) (rest done : List ℕ) : Type 0 where
  pub follow : done ++ take left rest ≡ old ++ take most some

pub first_more : {old : List ℕ} {most : ℕ} {some : List ℕ} {left : ℕ} {rest done : List ℕ} (n : ℕ) (after more : List ℕ) (fewer : ℕ) → FirstTo old most some left rest done → rest ≡ n ∷ after → left ≡ fewer + 1 → more ≡ done ++ n ∷ []
    → FirstTo old most some fewer after more
first_more {left = left} {rest = rest} {done = done} n after more fewer before is one pushed = record {
  follow = ap (λ xs. xs ++ take fewer after) pushed ∙ append_assoc done (n ∷ []) (take fewer after) ∙ ap (λ m. done ++ take m (n ∷ after)) room ∙ ap (λ xs. done ++ take left xs) (sym is) ∙ before.follow;
}
  where
    room : suc fewer ≡ left
    room = omega arith

pub first_none : {old : List ℕ} {most : ℕ} {some : List ℕ} {left : ℕ} {rest done : List ℕ} → FirstTo old most some left rest done → left ≡ 0 → done ≡ old ++ take most some
first_none {rest = rest} {done = done} before none = sym (append-nil done) ∙ ap (λ m. done ++ take m rest) (sym none) ∙ before.follow

take_nil : (n : ℕ) → [] ≡ take {A = ℕ} n []
take_nil zero = refl
take_nil (suc n) = refl

pub first_end : {old : List ℕ} {most : ℕ} {some : List ℕ} {left : ℕ} {rest done : List ℕ} → FirstTo old most some left rest done → rest ≡ [] → done ≡ old ++ take most some
first_end {left = left} {done = done} before none = sym (append-nil done) ∙ ap (λ xs. done ++ xs) (take_nil left) ∙ ap (λ xs. done ++ take left xs) (sym none) ∙ before.follow
