-- The path of a class is a path.
use Rattle.std.proofs.Common.{◌≡◌, ℕ, zero, suc, ◌+◌, ◌^◌, ◌%◌, ◌<◌, false, List, [], ◌∷◌, ◌++◌, codes, decimal, eqb, refl, arith}
use Rattle.std.proofs.lemmas.Bool.Decides.{nat_tests}
use Rattle.std.proofs.lemmas.Fmt.{decimal_by_steps, IsAscii-decimal}
use Rattle.std.proofs.lemmas.List.Elements.{All-append}
use Rattle.std.proofs.lemmas.List.Splits.{slice_split_none}
use Rattle.std.proofs.lemmas.Str.{IsAscii-append, IsUtf8-from_ascii}
use Rattle.std.specs.List.{All, slice_split}
use Rattle.std.specs.Str.{IsAscii}
use Rattle.jr_base.specs.Paths.{IsPath, HasDotPart}
use Rattle.jr_gen.specs.Workspace.{path_of}

none : (Q : ℕ → Type 0) → All Q []
none Q k d lt = absurd (omega arith)

cons : (Q : ℕ → Type 0) (x : ℕ) (xs : List ℕ) → Q x → All Q xs → All Q (x ∷ xs)
cons Q x xs here rest zero d lt = here
cons Q x xs here rest (suc k) d lt = rest k d (omega arith)

all_digits : (Q : ℕ → Type 0) → ((d : ℕ) → d < 10 → Q (48 + d)) → (n : ℕ) → n < 2 ^ 64 → All Q (decimal n)
all_digits Q digit n small =
    decimal_by_steps (λ _ ds. All Q ds) (λ m lt. cons Q (48 + m) [] (digit m lt) (none Q))
    (λ m ds low all. All-append Q ds _ all (cons Q (48 + m % 10) [] (digit (m % 10) (omega arith)) (none Q))) n small

-- the byte is not that one
abbrev Differs : ℕ → ℕ → Type 0
Differs b x = eqb x b ≡ false

digit_differs : (b d : ℕ) → b < 48 → eqb (48 + d) b ≡ false
digit_differs b d low = grind (arith, nat_tests)

ending : (Q : ℕ → Type 0) → Q 46 → Q 106 → Q 97 → Q 118 → All Q (codes ".java")
ending Q dot j a v = cons Q 46 (codes "java") dot (cons Q 106 (codes "ava") j (cons Q 97 (codes "va") a (cons Q 118 (codes "a") v (cons Q 97 [] a (none Q)))))

-- what holds of `C`, the digits and `.java` holds of the file's name
all_name : (Q : ℕ → Type 0) → Q 67 → ((d : ℕ) → d < 10 → Q (48 + d)) → Q 46 → Q 106 → Q 97 → Q 118 → (n : ℕ) → n < 2 ^ 64
    → All Q (67 ∷ (decimal n ++ codes ".java"))
all_name Q c digit dot j a v n small =
    cons Q 67 (decimal n ++ codes ".java") c (All-append Q (decimal n) (codes ".java") (all_digits Q digit n small) (ending Q dot j a v))

name_parts : (n : ℕ) → n < 2 ^ 64 → slice_split (λ b. eqb b 47) (67 ∷ (decimal n ++ codes ".java")) ≡ (67 ∷ (decimal n ++ codes ".java")) ∷ []
name_parts n small =
    slice_split_none (λ b. eqb b 47) (67 ∷ (decimal n ++ codes ".java"))
    (all_name (Differs 47) refl (λ d lt. digit_differs 47 d (omega arith)) refl refl refl refl n small)

no_zero : (n : ℕ) → n < 2 ^ 64 → All (Differs 0) (path_of n)
no_zero n small =
    cons (Differs 0) 103 (codes "/C" ++ (decimal n ++ codes ".java")) refl (cons (Differs 0) 47 (codes "C" ++ (decimal n ++ codes ".java")) refl
    (all_name (Differs 0) refl (λ d lt. digit_differs 0 d (omega arith)) refl refl refl refl n small))

no_dots : (n : ℕ) → n < 2 ^ 64 → HasDotPart (path_of n) → ⊥
no_dots n small dots = let split = name_parts n small in let found = rw split at dots in cc

ascii_none : IsAscii []
ascii_none zero = omega arith
ascii_none (suc i) = omega arith

ascii_cons : (x : ℕ) (xs : List ℕ) → x < 128 → IsAscii xs → IsAscii (x ∷ xs)
ascii_cons x xs low rest zero = low
ascii_cons x xs low rest (suc i) = rest i

ascii_ending : IsAscii (codes ".java")
ascii_ending =
    ascii_cons 46 (codes "java") (omega arith) (ascii_cons 106 (codes "ava") (omega arith) (ascii_cons 97 (codes "va") (omega arith)
    (ascii_cons 118 (codes "a") (omega arith) (ascii_cons 97 [] (omega arith) ascii_none))))

ascii_path : (n : ℕ) → n < 2 ^ 64 → IsAscii (path_of n)
ascii_path n small =
    let name = decimal n ++ codes ".java" in
    let ascii : IsAscii name = IsAscii-append (decimal n) (codes ".java") (IsAscii-decimal n small) ascii_ending in
    ascii_cons 103 (47 ∷ 67 ∷ name) (omega arith) (ascii_cons 47 (67 ∷ name) (omega arith) (ascii_cons 67 name (omega arith) ascii))

pub is_path : (n : ℕ) → n < 2 ^ 64 → IsPath (path_of n)
is_path n small = record {
  some = λ e. cc;
  relative = λ e. omega arith;
  named = no_dots n small;
  text = record {
    utf8 = IsUtf8-from_ascii (path_of n) (ascii_path n small);
    no_zero = λ z. (let differs : eqb 0 0 ≡ false = rw z.2 at (no_zero n small z.0 0 z.1) in cc);
  };
}
