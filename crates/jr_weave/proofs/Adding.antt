-- Parts that are added to a list one behind the other.
use Rattle.std.proofs.Common.{◌≡◌, sym, ◌∙◌, ap, ℕ, List, [], ◌++◌, Some, append_assoc, append-nil}
use Rattle.jr_defs.specs.declared.referent.Referent.{Referent}
use Rattle.jr_defs.specs.Referents.{Table}
use Rattle.jr_marks.specs.declared.marks.Marks.{Marks}
use Rattle.jr_shapes.specs.declared.spelling.Suffix.{Suffix}
use Rattle.jr_shapes.specs.Parts.{receiver_of}
use Rattle.jr_weave.specs.declared.piece.Piece.{Piece}
use Rattle.jr_weave.specs.Pieces.{own, receiver, receiver_cast}

pub adds_none : {A : Type 0} (old : List A) → old ≡ old ++ []
adds_none old = sym (append-nil old)

pub adds_two : {A : Type 0} (old a b one two : List A) → one ≡ old ++ a → two ≡ one ++ b → two ≡ old ++ (a ++ b)
adds_two old a b one two first second = second ∙ ap (λ xs. xs ++ b) first ∙ append_assoc old a b

pub adds_three : {A : Type 0} (old a b c one two three : List A) → one ≡ old ++ a → two ≡ one ++ b → three ≡ two ++ c → three ≡ old ++ (a ++ (b ++ c))
adds_three old a b c one two three first second third = adds_two old a (b ++ c) one three first (adds_two one b c two three second third)

pub adds_four : {A : Type 0} (old a b c d one two three four : List A) → one ≡ old ++ a → two ≡ one ++ b → three ≡ two ++ c → four ≡ three ++ d → four ≡ old ++ (a ++ (b ++ (c ++ d)))
adds_four old a b c d one two three four first second third fourth = adds_two old a (b ++ (c ++ d)) one four first (adds_three one b c d two three four second third fourth)

-- the cast of a receiver that is there, and the identifier
pub receiver_cast_so : (m : Marks) (t : Table) (unit n : ℕ) (s : Suffix) (found : Referent) (e : ℕ) (old one two : List Piece) → receiver_of m.rows.now t n ≡ Some e → one ≡ old ++ receiver m unit s (Some e)
    → two ≡ one ++ own m unit n found → two ≡ old ++ receiver_cast m t unit n s found
receiver_cast_so m t unit n s found e old one two is first second =
    adds_two old (receiver m unit s (receiver_of m.rows.now t n)) (own m unit n found) one two (first ∙ ap (λ o. old ++ receiver m unit s o) (sym is)) second
