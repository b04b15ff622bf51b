-- What stands in place of one, two and three parts.
use Rattle.std.proofs.Common.{◌≡◌, refl, sym, ◌∙◌, ap, subst, ℕ, suc, ◌+◌, false, [], ◌∷◌, ◌++◌, length, Option, Some, nat_eq, arith}
use Rattle.std.proofs.lemmas.Bool.{false≢true}
use Rattle.std.proofs.lemmas.Bool.Decides.{Decides-eqb}
use Rattle.std.proofs.lemmas.List.{length-append}
use Rattle.jr_core.specs.declared.code.Code.{Code}
use Rattle.jr_plain.specs.Conversions.{of_two}
use Rattle.jr_codes.specs.declared.source.Source.{Source}
use Rattle.jr_codes.specs.Making.{Below, Made, code, nothing, unknown, of_none, of_one, of_two_parts, of_three, code_if, IsOneAt, Stands}
use Rattle.jr_codes.specs.Waiting.{is_top}
use Rattle.jr_codes.specs.Reads.{Becomes}

abbrev pub first_or : ℕ × Code → Below → ℕ × Code
first_or d [] = d
first_or d (p ∷ ps) = p

abbrev pub others : Below → Below
others [] = []
others (p ∷ ps) = ps

-- the row is code, which is put before what is left
abbrev pub IsPut : Made → ℕ → Below → Below → Type 0
IsPut (code x) n left new = new ≡ (n, x) ∷ left
IsPut nothing n left new = ⊥
IsPut unknown n left new = ⊥

-- a code that is found is put there
pub found : (o : Option Code) (made : Code) (n : ℕ) (left new : Below) → o ≡ Some made → new ≡ (n, made) ∷ left → IsPut (code_if o) n left new
found o made n left new is h = subst (λ x. IsPut (code_if x) n left new) (sym is) h

pub put_stands : (made : Made) (n : ℕ) (parts left new : Below) → IsPut made n left new → Stands made n parts left new
put_stands (code x) n parts left new put = put
put_stands nothing n parts left new put = absurd put
put_stands unknown n parts left new put = absurd put

pub found_stands : (o : Option Code) (made : Code) (n : ℕ) (parts rest new : Below) → o ≡ Some made → new ≡ (n, made) ∷ rest → Stands (code_if o) n parts rest new
found_stands o made n parts rest new is h = put_stands (code_if o) n parts rest new (found o made n rest new is h)

-- ---- how many parts are taken

same_before : (a b : ℕ) → suc a ≡ suc b → a ≡ b
same_before a b h = omega (arith, h)

pub left_count : {n : ℕ} {x : Code} {left new : Below} (rest : Below) → new ≡ (n, x) ∷ left → IsOneAt n rest new → length left ≡ length rest
left_count {n} {x} {left} rest is one = same_before (length left) (length rest) (ap length (sym is) ∙ one (ap (is_top n) is ∙ (Decides-eqb n n).1 refl))

put_count : (made : Made) (n : ℕ) (left rest new : Below) → IsPut made n left new → IsOneAt n rest new → length left ≡ length rest
put_count (code x) n left rest new put one = left_count rest put one
put_count nothing n left rest new put one = absurd put
put_count unknown n left rest new put one = absurd put

same_counts : (a b p r : ℕ) → a + b ≡ p + r → b ≡ r → p ≡ a
same_counts a b p r all same = omega (arith, all, same)

-- as many parts stand inside the row as are taken
pub all_taken : (taken left parts rest : Below) → taken ++ left ≡ parts ++ rest → length left ≡ length rest → length parts ≡ length taken
all_taken taken left parts rest is same =
    same_counts (length taken) (length left) (length parts) (length rest) (sym (length-append taken left) ∙ ap length is ∙ length-append parts rest) same

pub other_count : (a b : ℕ) → nat_eq a b ≡ false → a ≡ b → ⊥
other_count a b apart is = false≢true (sym apart ∙ (Decides-eqb a b).1 is)

-- ---- what stands in place of the parts

-- of nothing
on_none : (made : Made) (n : ℕ) (old new parts rest : Below) → old ≡ parts ++ rest → length parts ≡ 0 → Stands made n [] old new → Stands (of_none parts made) n parts rest new
on_none made n old new [] rest h count st = subst (λ r. Stands made n [] r new) h st
on_none made n old new (p ∷ ps) rest h count st = absurd (omega (arith, count))

-- of one
on_one : (g : ℕ → Code → Made) (n : ℕ) (p : ℕ × Code) (left new parts rest : Below) → p ∷ left ≡ parts ++ rest → length parts ≡ 1 → Stands (g p.0 p.1) n (p ∷ []) left new
    → Stands (of_one parts g) n parts rest new
on_one g n p left new [] rest h count st = absurd (other_count 0 1 refl count)
on_one g n p left new (q ∷ []) rest h count st =
    let same : p ≡ q = ap (first_or p) h in let tail : left ≡ rest = ap others h in
    subst (λ r. Stands (g q.0 q.1) n (q ∷ []) r new) tail (subst (λ x. Stands (g x.0 x.1) n (x ∷ []) left new) same st)
on_one g n p left new (q ∷ (x ∷ xs)) rest h count st = absurd (omega (arith, count))

-- of two
on_two : (g : ℕ → Code → ℕ → Code → Made) (n : ℕ) (p q : ℕ × Code) (left new parts rest : Below) → p ∷ (q ∷ left) ≡ parts ++ rest → length parts ≡ 2
    → Stands (g p.0 p.1 q.0 q.1) n (p ∷ (q ∷ [])) left new → Stands (of_two_parts parts g) n parts rest new
on_two g n p q left new [] rest h count st = absurd (other_count 0 2 refl count)
on_two g n p q left new (x ∷ []) rest h count st = absurd (other_count 1 2 refl count)
on_two g n p q left new (x ∷ (y ∷ [])) rest h count st =
    let one : p ≡ x = ap (first_or p) h in let other : q ≡ y = ap (λ all. first_or q (others all)) h in let tail : left ≡ rest = ap (λ all. others (others all)) h in
    subst (λ r. Stands (g x.0 x.1 y.0 y.1) n (x ∷ (y ∷ [])) r new) tail
    (subst (λ b. Stands (g x.0 x.1 b.0 b.1) n (x ∷ (b ∷ [])) left new) other (subst (λ a. Stands (g a.0 a.1 q.0 q.1) n (a ∷ (q ∷ [])) left new) one st))
on_two g n p q left new (x ∷ (y ∷ (z ∷ zs))) rest h count st = absurd (omega (arith, count))

-- of three
on_three : (g : ℕ → Code → ℕ → Code → ℕ → Code → Made) (n : ℕ) (p q s : ℕ × Code) (left new parts rest : Below) → p ∷ (q ∷ (s ∷ left)) ≡ parts ++ rest → length parts ≡ 3
    → Stands (g p.0 p.1 q.0 q.1 s.0 s.1) n (p ∷ (q ∷ (s ∷ []))) left new → Stands (of_three parts g) n parts rest new
on_three g n p q s left new [] rest h count st = absurd (other_count 0 3 refl count)
on_three g n p q s left new (x ∷ []) rest h count st = absurd (other_count 1 3 refl count)
on_three g n p q s left new (x ∷ (y ∷ [])) rest h count st = absurd (other_count 2 3 refl count)
on_three g n p q s left new (x ∷ (y ∷ (z ∷ []))) rest h count st =
    let one : p ≡ x = ap (first_or p) h in let other : q ≡ y = ap (λ all. first_or q (others all)) h in let third : s ≡ z = ap (λ all. first_or s (others (others all))) h in
    let tail : left ≡ rest = ap (λ all. others (others (others all))) h in
    subst (λ r. Stands (g x.0 x.1 y.0 y.1 z.0 z.1) n (x ∷ (y ∷ (z ∷ []))) r new) tail
    (subst (λ c. Stands (g x.0 x.1 y.0 y.1 c.0 c.1) n (x ∷ (y ∷ (c ∷ []))) left new) third
    (subst (λ b. Stands (g x.0 x.1 b.0 b.1 s.0 s.1) n (x ∷ (b ∷ (s ∷ []))) left new) other
    (subst (λ a. Stands (g a.0 a.1 q.0 q.1 s.0 s.1) n (a ∷ (q ∷ (s ∷ []))) left new) one st)))
on_three g n p q s left new (x ∷ (y ∷ (z ∷ (w ∷ ws)))) rest h count st = absurd (omega (arith, count))

-- ---- the same of a source

pub none_becomes : {s : Source} {n : ℕ} {old new : Below} (made : Made) → IsPut made n old new → Becomes s n (λ parts. of_none parts made) old new
none_becomes {s} {n} {old} {new} made st = record {
  stands = λ read parts rest h one. on_none made n old new parts rest h.is (all_taken [] old parts rest h.is (put_count made n old rest new st one)) (put_stands made n [] old new st);
}

pub one_becomes : {s : Source} {n m : ℕ} {a : Code} {old left new : Below} (g : ℕ → Code → Made) → old ≡ (m, a) ∷ left → IsPut (g m a) n left new → Becomes s n (λ parts. of_one parts g) old new
one_becomes {s} {n} {m} {a} {old} {left} {new} g e st = record {
  stands = λ read parts rest h one.
      let is : (m, a) ∷ left ≡ parts ++ rest = sym e ∙ h.is in
      on_one g n (m, a) left new parts rest is (all_taken ((m, a) ∷ []) left parts rest is (put_count (g m a) n left rest new st one)) (put_stands (g m a) n ((m, a) ∷ []) left new st);
}

pub two_become : {s : Source} {n m k : ℕ} {a b : Code} {old mid left new : Below} (g : ℕ → Code → ℕ → Code → Made) → old ≡ (m, a) ∷ mid → mid ≡ (k, b) ∷ left
    → IsPut (g m a k b) n left new → Becomes s n (λ parts. of_two_parts parts g) old new
two_become {s} {n} {m} {k} {a} {b} {old} {mid} {left} {new} g e d st = record {
  stands = λ read parts rest h one.
      let is : (m, a) ∷ ((k, b) ∷ left) ≡ parts ++ rest = ap (λ all. (m, a) ∷ all) (sym d) ∙ sym e ∙ h.is in
      on_two g n (m, a) (k, b) left new parts rest is (all_taken ((m, a) ∷ ((k, b) ∷ [])) left parts rest is (put_count (g m a k b) n left rest new st one))
      (put_stands (g m a k b) n ((m, a) ∷ ((k, b) ∷ [])) left new st);
}

pub three_become : {s : Source} {n m k l : ℕ} {a b x : Code} {old mid third left new : Below} (g : ℕ → Code → ℕ → Code → ℕ → Code → Made) → old ≡ (m, a) ∷ mid → mid ≡ (k, b) ∷ third
    → third ≡ (l, x) ∷ left → IsPut (g m a k b l x) n left new → Becomes s n (λ parts. of_three parts g) old new
three_become {s} {n} {m} {k} {l} {a} {b} {x} {old} {mid} {third} {left} {new} g e d t st = record {
  stands = λ read parts rest h one.
      let is : (m, a) ∷ ((k, b) ∷ ((l, x) ∷ left)) ≡ parts ++ rest = ap (λ all. (m, a) ∷ ((k, b) ∷ all)) (sym t) ∙ ap (λ all. (m, a) ∷ all) (sym d) ∙ sym e ∙ h.is in
      on_three g n (m, a) (k, b) (l, x) left new parts rest is (all_taken ((m, a) ∷ ((k, b) ∷ ((l, x) ∷ []))) left parts rest is (put_count (g m a k b l x) n left rest new st one))
      (put_stands (g m a k b l x) n ((m, a) ∷ ((k, b) ∷ ((l, x) ∷ []))) left new st);
}

pub along : {s : Source} {n : ℕ} {old new : Below} {A : Type 0} {x y : A} (made : A → Below → Made) → x ≡ y → Becomes s n (made y) old new → Becomes s n (made x) old new
along {s} {n} {old} {new} made e b = subst (λ z. Becomes s n (made z) old new) (sym e) b

pub both_some : {A B C : Type 0} {x : Option A} {y : Option B} {a : A} {b : B} (g : A → B → Option C) → x ≡ Some a → y ≡ Some b → of_two g x y ≡ g a b
both_some {x = x} {b = b} g e d = ap (λ z. of_two g x z) d ∙ ap (λ z. of_two g z (Some b)) e
