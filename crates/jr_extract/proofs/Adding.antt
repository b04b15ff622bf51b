-- Texts that are put together, and lists that are gone through.
use Rattle.std.proofs.Common.{◌≡◌, sym, ◌∙◌, ap, ℕ, List, [], ◌∷◌, ◌++◌, codes, flat_map, append_assoc, append-nil}
use Rattle.jr_weave.proofs.Adding.{adds_two, adds_four}
use Rattle.jr_extract.specs.Writing.{separated}

pub adds_five : (old a b c d e one two three four five : List ℕ) → one ≡ old ++ a → two ≡ one ++ b → three ≡ two ++ c → four ≡ three ++ d → five ≡ four ++ e → five ≡ old ++ (a ++ (b ++ (c ++ (d ++ e))))
adds_five old a b c d e one two three four five first second third fourth fifth =
    adds_two old a (b ++ (c ++ (d ++ e))) one five first (adds_four one b c d e two three four five second third fourth fifth)

-- ---- lists with what stands between

pub separated_next : {A : Type 0} (of : A → List ℕ) (lead all done new : List ℕ) (left more : List A) (x : A) → left ≡ x ∷ more → new ≡ done ++ (lead ++ of x) → done ++ separated lead of left ≡ all
    → new ++ separated (codes ", ") of more ≡ all
separated_next of lead all done new left more x is made before = ap (λ xs. xs ++ separated (codes ", ") of more) made ∙ append_assoc done (lead ++ of x) (separated (codes ", ") of more)
    ∙ ap (λ xs. done ++ separated lead of xs) (sym is) ∙ before

pub separated_end : {A : Type 0} (of : A → List ℕ) (lead all done : List ℕ) (left : List A) → left ≡ [] → done ++ separated lead of left ≡ all → done ≡ all
separated_end of lead all done left is before = sym (append-nil done) ∙ ap (λ xs. done ++ separated lead of xs) (sym is) ∙ before

-- ---- lists of lists

pub flat_next : {A B : Type 0} (f : A → List B) (all done new : List B) (left more : List A) (x : A) → left ≡ x ∷ more → new ≡ done ++ f x → done ++ flat_map f left ≡ all → new ++ flat_map f more ≡ all
flat_next f all done new left more x is made before = ap (λ xs. xs ++ flat_map f more) made ∙ append_assoc done (f x) (flat_map f more) ∙ ap (λ xs. done ++ flat_map f xs) (sym is) ∙ before

pub flat_end : {A B : Type 0} (f : A → List B) (all done : List B) (left : List A) → left ≡ [] → done ++ flat_map f left ≡ all → done ≡ all
flat_end f all done left is before = sym (append-nil done) ∙ ap (λ xs. done ++ flat_map f xs) (sym is) ∙ before
