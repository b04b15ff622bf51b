-- What the listing and the bytes of a store say of its one file.
use Rattle.std.proofs.Common.{◌≡◌, ℕ, zero, suc, ◌<◌, ◌≤◌, Bool, List, [], ◌∷◌, length, get_or, take, Some, None, Option, option_map, IsSome, IsTrue, refl, sym, ap, subst, ◌∙◌, arith, length-take, Vec, Global}
use Rattle.std.specs.Prelude.{Contains, bytes_eq}
use Rattle.std.specs.List.{IsDistinct}
use Rattle.std.proofs.lemmas.Slice.Eq.{bytes_eq-Decides}
use Rattle.std.proofs.lemmas.Bool.{false≢true}
use Rattle.jr_store.specs.Image.{Image, AreJava, Lists, Reads}
use Rattle.jr_top.specs.Renaming.{IsOnly, ForTold}
use Rattle.jr_top.specs.Decisions.{IsHeld}

-- one path, compared
pub just : (paths : List (List ℕ)) (file x : List ℕ) (r : Bool) → 1 ≤ length paths → length paths < 2 → x ≡ get_or paths 0 x → r ≡ bytes_eq x file → (IsTrue r → paths ≡ file ∷ []) × (paths ≡ file ∷ [] → IsTrue r)
just [] file x r one few is e = absurd (omega arith)
just (p ∷ []) file x r one few is e =
    let d = bytes_eq-Decides x file in
    (λ yes. ap (λ q. q ∷ []) (sym is ∙ d.0 (sym e ∙ yes)), λ same. e ∙ d.1 (is ∙ first_same p file same))
  where
    first_same : (p q : List ℕ) → p ∷ [] ≡ q ∷ [] → p ≡ q
    first_same p q e = cc
just (p ∷ q ∷ rest) file x r one few is e = absurd (omega arith)

first_there : (p : List ℕ) (rest : List (List ℕ)) → Contains (p ∷ rest) p
first_there p rest = (0, omega arith, refl)

second_there : (p q : List ℕ) (rest : List (List ℕ)) → Contains (p ∷ q ∷ rest) q
second_there p q rest = (1, omega arith, refl)

-- the one file is the one that is listed
pub listed : (files : Image) (file : List ℕ) (paths : List (List ℕ)) → IsDistinct bytes_eq paths → AreJava paths → Lists (Some files) 2 paths → IsOnly files file → IsSome (files file) → paths ≡ file ∷ []
unfolding IsDistinct
listed files file [] distinct java lists only there = nothing (lists.1 (omega arith) file only.0 there)
  where
    nothing : Contains [] file → [] ≡ file ∷ []
    nothing (k, below, is) = absurd (omega arith)
listed files file (p ∷ []) distinct java lists only there = ap (λ q. q ∷ []) (only.1 p java.0 (lists.0 p (first_there p [])))
listed files file (p ∷ q ∷ rest) distinct java lists only there =
    let p_is = only.1 p java.0 (lists.0 p (first_there p (q ∷ rest))) in
    let q_is = only.1 q java.1.0 (lists.0 q (second_there p q rest)) in
    absurd (false≢true (sym distinct.0.0 ∙ (bytes_eq-Decides p q).1 (p_is ∙ sym q_is)))

-- one that is listed alone is the one file
pub only_listed : (files : Image) (file : List ℕ) → AreJava (file ∷ []) → Lists (Some files) 2 (file ∷ []) → IsOnly files file
only_listed files file java lists = (java.0, λ path is there. here path (lists.1 (omega arith) path is there))
  where
    at : (path : List ℕ) (k : ℕ) → k < 1 → get_or (file ∷ []) k path ≡ path → path ≡ file
    at path zero below is = sym is
    at path (suc k) below is = absurd (omega arith)

    here : (path : List ℕ) → Contains (file ∷ []) path → path ≡ file
    here path (k, below, is) = at path k below is

pub some_there : (files : Image) (file bytes : List ℕ) → files file ≡ Some bytes → IsSome (files file)
some_there files file bytes is = subst IsSome (sym is) refl

pub not_listed : (told : Option Image) (file : List ℕ) (paths : List (List ℕ)) → IsDistinct bytes_eq paths → AreJava paths → Lists told 2 paths → (paths ≡ file ∷ [] → ⊥) → ForTold told (λ files. IsHeld files file None)
not_listed None file paths distinct java lists other = tt
not_listed (Some files) file paths distinct java lists other = λ bytes holds. other (listed files file paths distinct java lists holds.only (some_there files file bytes holds.there))

same_some : {A : Type 0} (x y : A) → Some x ≡ Some y → x ≡ y
same_some x y e = cc

some_none : {A : Type 0} (x : A) → Some x ≡ None → ⊥
some_none x e = cc

pub large : (told : Option Image) (file bytes : List ℕ) → Reads told file 65537 (Some bytes) → 65536 < length bytes → ForTold told (λ files. IsHeld files file None)
large None file bytes read size = tt
large (Some files) file bytes read size = λ whole holds.
    let e : bytes ≡ take 65537 whole = same_some _ _ (read ∙ ap (option_map (take 65537)) holds.there) in
    omega (arith, ap length e, length-take 65537 whole, holds.small)

-- where a read finds nothing, there is nothing
pub absent : (told : Option Image) (file : List ℕ) → Reads told file 65537 None → ForTold told (λ files. IsHeld files file None)
absent None file read = tt
absent (Some files) file read = λ whole holds. some_none _ (sym (read ∙ ap (option_map (take 65537)) holds.there))

take_few : {A : Type 0} (n : ℕ) (xs : List A) → length (take n xs) < n → take n xs ≡ xs
take_few zero xs few = absurd (omega arith)
take_few (suc n) [] few = refl
take_few (suc n) (x ∷ xs) few = ap (λ rest. x ∷ rest) (take_few n xs (omega arith))

-- what is shorter than what is asked for is the whole
pub whole_read : (n : ℕ) (found : Option (List ℕ)) (bytes : List ℕ) → Some bytes ≡ option_map (take n) found → length bytes < n → found ≡ Some bytes
whole_read n None bytes read size = absurd (some_none bytes read)
whole_read n (Some whole) bytes read size =
    let e : bytes ≡ take n whole = same_some _ _ read in
    ap Some (sym (take_few n whole (omega (arith, ap length e))) ∙ sym e)

pub holds_it : (told : Option Image) (file bytes : List ℕ) (paths : List (List ℕ)) → AreJava paths → Lists told 2 paths → paths ≡ file ∷ [] → Reads told file 65537 (Some bytes) → length bytes ≤ 65536 → ForTold told (λ files. IsHeld files file (Some bytes))
holds_it None file bytes paths java lists is read size = tt
holds_it (Some files) file bytes paths java lists is read size = record {
  only = only_listed files file (subst AreJava is java) (subst (Lists (Some files) 2) is lists);
  there = whole_read 65537 (files file) bytes read (omega arith);
  small = size;
}

-- the first of the paths that are listed
pub first_is : (paths : List (List ℕ)) (file x : List ℕ) → paths ≡ file ∷ [] → x ≡ get_or paths 0 x → x ≡ file
first_is paths file x is e = e ∙ ap (λ (ps : List (List ℕ)). get_or ps 0 x) is

-- what is read after the listing is what stood before it
pub read_again : (n : ℕ) (told again : Option Image) (file path : List ℕ) (found : Option (Vec ℕ Global)) (bytes : Vec ℕ Global) → again ≡ told → path ≡ file → found ≡ Some bytes → Reads again path n (option_map (λ v. v.items) found) → Reads told file n (Some bytes.items)
read_again n told again file path found bytes same file_is is read =
    subst (λ (t : Option Image). Reads t file n (Some bytes.items)) same
    (subst (λ (p : List ℕ). Reads again p n (Some bytes.items)) file_is
    (subst (λ (o : Option (Vec ℕ Global)). Reads again path n (option_map (λ v. v.items) o)) is read))
