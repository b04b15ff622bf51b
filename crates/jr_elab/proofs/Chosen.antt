-- `if` and `return`, from what their functions call.
use Rattle.std.proofs.Common.{◌≡◌, refl, sym, ◌∙◌, ap, subst, ℕ, ◌+◌, ◌<◌, ◌^◌, Bool, true, false, cond, [], ◌∷◌, ◌++◌, Option, Some, None, nat_lt, length, arith}
use Rattle.std.proofs.lemmas.Bool.Decides.{Decides-eqb}
use Rattle.std.proofs.lemmas.Option.{none-some}
use Rattle.std.specs.Prelude.{option_map}
use Rattle.jr_core.specs.declared.code.Code.{Code}
use Rattle.jr_core.specs.declared.code.Code.TheVariants as c
use Rattle.jr_defs.specs.declared.referent.RowType.{RowType}
use Rattle.jr_tree.specs.Rows.{end}
use Rattle.jr_codes.specs.declared.source.Source.{Source}
use Rattle.jr_codes.specs.Facts.{Facts, has_child}
use Rattle.jr_codes.specs.Making.{Below, code, unknown, code_if, of_none, AreBefore, Parted, Stands}
use Rattle.jr_codes.specs.Waiting.{TakesIf}
use Rattle.jr_codes.specs.Conversions.{converted, Converts}
use Rattle.jr_codes.specs.Reads.{rows_of, facts, child_of, IsReadAt, Becomes}
use Rattle.jr_expressions.specs.Statements.{choice_made, returned, return_made}
use Rattle.jr_expressions.proofs.Standing.{found, left_count, none_becomes, one_becomes}
use Rattle.jr_expressions.proofs.Operated.{one_counted, two_counted}
use Rattle.jr_elab.proofs.Left.{parts_taken}

-- ---- `if`

choice_none : (f : Facts) (n m k : ℕ) (a b : Code) (mid new parts rest : Below) → (m, a) ∷ ((k, b) ∷ mid) ≡ parts ++ rest → new ≡ (n, c.If a b None) ∷ mid → length mid ≡ length rest
    → Stands (choice_made f n parts) n parts rest new
choice_none f n m k a b mid new parts rest is st same =
    let taken = parts_taken ((m, a) ∷ ((k, b) ∷ [])) parts mid rest is same in
    subst (λ ps. Stands (choice_made f n ps) n ps rest new) (sym taken.0) (st ∙ ap (λ r. (n, c.If a b None) ∷ r) taken.1)

choice_some : (f : Facts) (n m k third e : ℕ) (a b d : Code) (mid new parts rest : Below) → (m, a) ∷ ((k, b) ∷ ((third, d) ∷ mid)) ≡ parts ++ rest → AreBefore e parts → (k < e → third ≡ end f.rows (end f.rows (n + 1)))
    → new ≡ (n, c.If a b (Some d)) ∷ mid → length mid ≡ length rest → Stands (choice_made f n parts) n parts rest new
choice_some f n m k third e a b d mid new parts rest is inside at st same =
    let taken = parts_taken ((m, a) ∷ ((k, b) ∷ ((third, d) ∷ []))) parts mid rest is same in
    let before : AreBefore e ((m, a) ∷ ((k, b) ∷ ((third, d) ∷ []))) = subst (AreBefore e) taken.0 inside in
    subst (λ ps. Stands (choice_made f n ps) n ps rest new) (sym taken.0)
    (subst (λ x. Stands (cond x (code (c.If a b (Some d))) unknown) n ((m, a) ∷ ((k, b) ∷ ((third, d) ∷ []))) rest new)
    (sym ((Decides-eqb third (end f.rows (end f.rows (n + 1)))).1 (at before.1.0))) (st ∙ ap (λ r. (n, c.If a b (Some d)) ∷ r) taken.1))

choice_where : (there : Bool) (f : Facts) (n m k third e : ℕ) (a b : Code) (on : Option Code) (left mid new parts rest : Below) → Parted e ((m, a) ∷ ((k, b) ∷ left)) parts rest
    → TakesIf (cond there (Some third) None) left mid on → (k < e → third ≡ end f.rows (end f.rows (n + 1))) → new ≡ (n, c.If a b on) ∷ mid → length mid ≡ length rest
    → Stands (choice_made f n parts) n parts rest new
choice_where true f n m k third e a b (Some d) left mid new parts rest h took at st same =
    choice_some f n m k third e a b d mid new parts rest (ap (λ xs. (m, a) ∷ ((k, b) ∷ xs)) (sym took) ∙ h.is) h.inside at st same
choice_where true f n m k third e a b None left mid new parts rest h took at st same =
    choice_none f n m k a b mid new parts rest (ap (λ xs. (m, a) ∷ ((k, b) ∷ xs)) took.1 ∙ h.is) st same
choice_where false f n m k third e a b on left mid new parts rest h took at st same =
    choice_none f n m k a b mid new parts rest (ap (λ xs. (m, a) ∷ ((k, b) ∷ xs)) took.1 ∙ h.is) (st ∙ ap (λ o. (n, c.If a b o) ∷ mid) took.0) same

counted : (k e bound : ℕ) → k < e → e < bound → k + 1 < bound
counted k e bound lt fits = omega (arith, lt, fits)

-- the second part, whose row is counted because it stands inside, has the row right behind the first child
third_is : {s : Source} {n second third e : ℕ} → IsReadAt s n → (n + 2 < 2 ^ 32 → second ≡ end (rows_of s) (n + 1)) → (second + 1 < 2 ^ 32 → third ≡ end (rows_of s) second) → e < 2 ^ 32 → second < e
    → third ≡ end (rows_of s) (end (rows_of s) (n + 1))
third_is {s} {n} {second} {third} {e} read at next fits lt = next (counted second e (2 ^ 32) lt fits) ∙ ap (end (rows_of s)) (at (two_counted read))

pub choice_becomes : {s : Source} {n m e second third : ℕ} {a b : Code} {row : Option ℕ} (no : Option Code) {old first left mid new : Below} → (n + 2 < 2 ^ 32 → second ≡ end (rows_of s) (n + 1))
    → (second + 1 < 2 ^ 32 → third ≡ end (rows_of s) second) → (n + 1 < 2 ^ 32 → e ≡ end (rows_of s) n) → e < 2 ^ 32 → row ≡ cond (nat_lt third e) (Some third) None
    → old ≡ (m, a) ∷ first → first ≡ (second, b) ∷ left → TakesIf row left mid no → new ≡ (n, c.If a b no) ∷ mid → Becomes s n (λ parts. choice_made (facts s) n parts) old new
choice_becomes {s} {n} {m} {e} {second} {third} {a} {b} {row} other {old} {first} {left} {mid} {new} at next same fits place one two took st = record {
  stands = λ read parts rest h alone.
      choice_where (nat_lt third e) (facts s) n m second third e a b other left mid new parts rest
      (subst (λ all. Parted e all parts rest) (one ∙ ap (λ all. (m, a) ∷ all) two) (subst (λ x. Parted x old parts rest) (sym (same (one_counted read))) h))
      (subst (λ r. TakesIf r left mid other) place took) (third_is read at next fits) st (left_count rest st alone);
}

-- ---- `return`

pub value_becomes : {s : Source} {n m : ℕ} {made : Code} {to : RowType} {old left new : Below} → Converts (facts s) m to old left made → new ≡ (n, c.Return (Some made)) ∷ left
    → Becomes s n (λ parts. returned (Some to) (facts s) parts) old new
value_becomes {s} {n} {m} {made} {to} {old} {left} {new} one st =
    one_becomes (λ m a. code_if (option_map (λ x. c.Return (Some x)) (converted (facts s) m to a))) one.was
    (found (option_map (λ x. c.Return (Some x)) (converted (facts s) m to one.given)) (c.Return (Some made)) n left new (ap (option_map (λ x. c.Return (Some x))) one.is) st)

child_there : (b : Bool) (row k : ℕ) → Some row ≡ cond b (Some k) None → b ≡ true
child_there true row k h = refl
child_there false row k h = absurd (none-some _ (sym h))

child_away : (b : Bool) (k : ℕ) → None ≡ cond b (Some k) None → b ≡ false
child_away true k h = absurd (none-some _ h)
child_away false k h = refl

return_along : {s : Source} {n : ℕ} {old new : Below} (wanted : Option RowType) (b : Bool) → (IsReadAt s n → has_child (facts s) n ≡ b)
    → Becomes s n (λ parts. cond b (returned wanted (facts s) parts) (of_none parts (code (c.Return None)))) old new → Becomes s n (λ parts. return_made wanted (facts s) n parts) old new
return_along {s} {n} {old} {new} wanted b is becomes = record {
  stands = λ read parts rest h one. subst (λ x. Stands (cond x (returned wanted (facts s) parts) (of_none parts (code (c.Return None)))) n parts rest new) (sym (is read)) (becomes.stands read parts rest h one);
}

pub return_some : {s : Source} {n row : ℕ} {old new : Below} (wanted : Option RowType) → (n + 1 < 2 ^ 32 → Some row ≡ child_of (rows_of s) n) → Becomes s n (λ parts. returned wanted (facts s) parts) old new
    → Becomes s n (λ parts. return_made wanted (facts s) n parts) old new
return_some {s} {n} {row} {old} {new} wanted child becomes =
    return_along wanted true (λ read. child_there (nat_lt (n + 1) (end (rows_of s) n)) row (n + 1) (child (one_counted read))) becomes

pub return_none : {s : Source} {n : ℕ} {old new : Below} (wanted : Option RowType) → (n + 1 < 2 ^ 32 → None ≡ child_of (rows_of s) n) → new ≡ (n, c.Return None) ∷ old
    → Becomes s n (λ parts. return_made wanted (facts s) n parts) old new
return_none {s} {n} {old} {new} wanted child st =
    return_along wanted false (λ read. child_away (nat_lt (n + 1) (end (rows_of s) n)) (n + 1) (child (one_counted read))) (none_becomes (code (c.Return None)) st)
