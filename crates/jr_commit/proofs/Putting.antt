-- What putting a side into an image does at each path.
use Rattle.std.proofs.Common.{◌≡◌, ◌≢◌, ◌⊎◌, inl, inr, ⊎_elim, List, [], ◌∷◌, ℕ, Bool, true, false, cond, refl, sym, ◌∙◌, ap}
use Rattle.std.specs.Prelude.{Option, Decides, bytes_eq}
use Rattle.std.specs.List.{AllByRecursion}
use Rattle.std.proofs.lemmas.Slice.Eq.{bytes_eq-Decides}
use Rattle.jr_store.specs.Image.{Image, Puts}
use Rattle.jr_store.specs.Sides.{put_side}
use Rattle.jr_commit.specs.SidesAt.{SideAt, with_sides, IsOff}

chosen : (b : Bool) (path q : List ℕ) (side : Option (List ℕ)) (f h : Image) → Decides b (q ≡ path) → Puts path side f h → h q ≡ cond b side (f q)
chosen true path q side f h here puts = ap h (here.0 refl) ∙ puts.0
chosen false path q side f h here puts = puts.1 q (λ e. cc (here.1 e))

pub puts_is : (path : List ℕ) (side : Option (List ℕ)) (f h : Image) → Puts path side f h → h ≡ put_side path side f
puts_is path side f h puts = λ i q. chosen (bytes_eq q path) path q side f h (bytes_eq-Decides q path) puts i

-- two paths are one or they differ
pub same_or_not : (q path : List ℕ) → (q ≡ path) ⊎ (q ≢ path)
same_or_not q path = decided (bytes_eq q path) refl
  where
    decided : (b : Bool) → bytes_eq q path ≡ b → (q ≡ path) ⊎ (q ≢ path)
    decided true is = inl ((bytes_eq-Decides q path).0 is)
    decided false is = inr (λ e. cc ((bytes_eq-Decides q path).1 e, is))

pub put_here : (path q : List ℕ) (side : Option (List ℕ)) (f : Image) → q ≡ path → put_side path side f q ≡ side
put_here path q side f is = ap (λ b. cond b side (f q)) ((bytes_eq-Decides q path).1 is)

pub put_elsewhere : (path q : List ℕ) (side : Option (List ℕ)) (f : Image) → q ≢ path → put_side path side f q ≡ f q
put_elsewhere path q side f off = decided (bytes_eq q path) refl
  where
    decided : (b : Bool) → bytes_eq q path ≡ b → cond (bytes_eq q path) side (f q) ≡ f q
    decided true is = absurd (off ((bytes_eq-Decides q path).0 is))
    decided false is = ap (λ b. cond b side (f q)) is

-- entries put into an image that has them already, but for their paths, give back what there was
pub back : (es : List SideAt) (c f : Image) (q : List ℕ) → AllByRecursion (λ e. f e.0 ≡ e.1) es → (IsOff es q → c q ≡ f q) → with_sides es c q ≡ f q
back [] c f q olds off = off tt
back (e ∷ es) c f q olds off = back es (put_side e.0 e.1 c) f q olds.1
    (λ others. ⊎_elim (λ here. put_here e.0 q e.1 c here ∙ sym olds.0 ∙ ap f (sym here)) (λ ne. put_elsewhere e.0 q e.1 c ne ∙ off (ne, others)) (same_or_not q e.0))

-- entries leave the other paths
pub with_sides_off : (es : List SideAt) (f : Image) (q : List ℕ) → IsOff es q → with_sides es f q ≡ f q
with_sides_off [] f q off = refl
with_sides_off (e ∷ es) f q off = with_sides_off es (put_side e.0 e.1 f) q off.1 ∙ put_elsewhere e.0 q e.1 f off.0

-- and depend at a path on nothing else
pub with_sides_at : (es : List SideAt) (f g : Image) (q : List ℕ) → f q ≡ g q → with_sides es f q ≡ with_sides es g q
with_sides_at [] f g q same = same
with_sides_at (e ∷ es) f g q same = with_sides_at es (put_side e.0 e.1 f) (put_side e.0 e.1 g) q (ap (cond (bytes_eq q e.0) e.1) same)

-- entries put into two images that agree but for their paths make them agree
pub put_same : (es : List SideAt) (c f : Image) (q : List ℕ) → (IsOff es q → c q ≡ f q) → with_sides es c q ≡ with_sides es f q
put_same [] c f q off = off tt
put_same (e ∷ es) c f q off = put_same es (put_side e.0 e.1 c) (put_side e.0 e.1 f) q
    (λ others. ⊎_elim (λ here. put_here e.0 q e.1 c here ∙ sym (put_here e.0 q e.1 f here)) (λ ne. put_elsewhere e.0 q e.1 c ne ∙ off (ne, others) ∙ sym (put_elsewhere e.0 q e.1 f ne)) (same_or_not q e.0))
