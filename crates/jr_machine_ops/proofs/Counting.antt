-- One item more of those that are counted.
use Rattle.std.proofs.Common.{◌≡◌, refl, ap, sym, ◌∙◌, ℕ, zero, suc, ◌+◌, ◌-◌, ◌*◌, ◌<◌, ◌≤◌, take, drop, get_or, List, [], ◌∷◌, ◌++◌, length, length-append, append_assoc, sub-one, arith}
use Rattle.std.specs.Prelude.{replicate}
use Rattle.std.proofs.lemmas.List.{take_all}
use Rattle.jr_base.specs.Mirror as t
use Rattle.jr_core.specs.declared.code.Code as declared_code
use Rattle.jr_core.specs.Mirror.{plain_codes}
use Rattle.jr_machine_defs.specs.declared.value.Value.TheVariants as v
use Rattle.jr_machine_defs.specs.declared.heap.Cell.{Cell}
use Rattle.jr_machine_defs.specs.declared.heap.Cell.TheVariants as cell
use Rattle.jr_machine_defs.specs.Parts.{codes_count}
use Rattle.jr_machine_defs.specs.Arrays.{references, arrays_of_arrays, arrays}

pub append_one : {A : Type 0} (xs ys : List A) (x : A) → (xs ++ x ∷ []) ++ ys ≡ xs ++ x ∷ ys
append_one xs ys x = append_assoc xs (x ∷ []) ys

pub replicate_step : {A : Type 0} (n : ℕ) (x : A) → 0 < n → replicate n x ≡ x ∷ replicate (n - 1) x
replicate_step zero x up = absurd (omega arith)
replicate_step (suc n) x up = rw sub-one refl

pub references_step : (first n : ℕ) → 0 < n → references first n ≡ v.Ref first ∷ references (first + 1) (n - 1)
references_step first zero up = absurd (omega arith)
references_step first (suc n) up = rw sub-one refl

pub arrays_step : (item : t.Ty) (first size n : ℕ) → 0 < n → arrays_of_arrays item first size n ≡ cell.Array item (references first size) ∷ arrays_of_arrays item (first + size) size (n - 1)
arrays_step item first size zero up = absurd (omega arith)
arrays_step item first size (suc n) up = rw sub-one refl

length_level : (item : t.Ty) (first size n : ℕ) → length (arrays_of_arrays item first size n) ≡ n
length_level item first size zero = refl
length_level item first size (suc n) = ap suc (length_level item (first + size) size n)

deep_arrays : (item : t.Ty) (first count size : ℕ) (rest : List ℕ) → 0 < length rest
    → arrays (t.Array item) first count (size ∷ rest) ≡ arrays_of_arrays item (first + count) size count ++ arrays item (first + count) (count * size) rest
deep_arrays item first count size [] some = absurd (omega arith)
deep_arrays item first count size (more ∷ rest) some = refl

pub levels_join : (old : List Cell) (item : t.Ty) (count size : ℕ) (rest : List ℕ) → 0 < length rest
    → (old ++ arrays_of_arrays item (length old + count) size count) ++ arrays item (length (old ++ arrays_of_arrays item (length old + count) size count)) (count * size) rest
    ≡ old ++ arrays (t.Array item) (length old) count (size ∷ rest)
levels_join old item count size rest some =
    let same : length (old ++ arrays_of_arrays item (length old + count) size count) ≡ length old + count =
    length-append old (arrays_of_arrays item (length old + count) size count) ∙ ap (λ n. length old + n) (length_level item (length old + count) size count) in
    rw (same, deep_arrays item (length old) count size rest some) (append_assoc old (arrays_of_arrays item (length old + count) size count) (arrays item (length old + count) (count * size) rest))

-- a list that is not empty, cut behind its first item
pub split_first : (sizes : List ℕ) → 1 ≤ length sizes → sizes ≡ get_or sizes 0 0 ∷ take (length sizes - 1) (drop 1 sizes)
split_first [] some = absurd (omega arith)
split_first (x ∷ all) some = ap (λ l. x ∷ l) (sym (take_all (length (x ∷ all) - 1) all (omega arith)))

-- the arrays of the first dimension, and then those that they refer to
pub deeper : (old mid new : List Cell) (ty item : t.Ty) (count size total : ℕ) (sizes rest : List ℕ) → ty ≡ t.Array item → sizes ≡ size ∷ rest → 0 < length rest → total ≡ count * size
    → mid ≡ old ++ arrays_of_arrays item (length old + count) size count → new ≡ mid ++ arrays item (length mid) total rest
    → new ≡ old ++ arrays ty (length old) count sizes
deeper old mid new ty item count size total sizes rest array split some product level below =
    rw (below, level, product, array, split) (levels_join old item count size rest some)

pub count_length : (all : List declared_code.Code) → codes_count (plain_codes all) ≡ length all
count_length [] = refl
count_length (c ∷ all) = omega (arith, count_length all)
