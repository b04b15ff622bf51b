-- Names and fields, from what their functions call.
use Rattle.std.proofs.Common.{◌≡◌, refl, sym, ◌∙◌, ap, subst, ℕ, ◌+◌, ◌≤◌, true, false, cond, List, [], ◌∷◌, ◌++◌, length, Option, Some, None, nat_eq, nat_lt, arith, not, ◌||◌, is_some}
use Rattle.std.proofs.lemmas.Bool.Decides.{Decides-eqb, Decides-ltb}
use Rattle.std.specs.Prelude.{option_map}
use Rattle.jr_core.specs.declared.code.Code.{Code}
use Rattle.jr_core.specs.declared.code.Code.TheVariants as c
use Rattle.jr_tree.specs.Rows.{end}
use Rattle.jr_plain.specs.Types.{named_type}
use Rattle.jr_constants.specs.declared.value.Value.{Value}
use Rattle.jr_constants.specs.Values.{value_in_if}
use Rattle.jr_codes.specs.Facts.{Facts, has_child}
use Rattle.jr_codes.specs.declared.source.Source.{Source}
use Rattle.jr_codes.specs.Making.{Below, Made, code, nothing, unknown, of_none, BeginsFrom, Parted, IsOneAt, Stands}
use Rattle.jr_expressions.specs.Names.{has_constant_form, field_behind, field_alone, field_made, own_field, object}
use Rattle.jr_codes.specs.Reads.{rows_of, facts, IsReadAt, Becomes}
use Rattle.jr_codes.specs.Waiting.{TakesIf}
use Rattle.jr_expressions.proofs.Standing.{first_or, others, found, left_count, all_taken, none_becomes}

pub own_becomes : {s : Source} {n : ℕ} {on : Code} {old new : Below} (d : ℕ) (level : Option ℕ) → object (facts s) level ≡ Some on → new ≡ (n, c.FieldAt (Some on) ((facts s).decl d)) ∷ old
    → Becomes s n (λ parts. of_none parts (own_field (facts s) d level)) old new
own_becomes {s} {n} {on} {old} {new} d level is st =
    none_becomes (own_field (facts s) d level)
    (found (option_map (λ on. c.FieldAt (Some on) ((facts s).decl d)) (object (facts s) level)) (c.FieldAt (Some on) ((facts s).decl d)) n old new
    (ap (option_map (λ on. c.FieldAt (Some on) ((facts s).decl d))) is) st)

no_child_there : (r m e : ℕ) → r ≡ m → nat_lt m e ≡ true → e ≤ r → ⊥
no_child_there r m e same lt le = let less = (Decides-ltb m e).0 lt in omega (arith, same, less, le)

-- a field of what was taken, and of nothing
taken_stands : (s : Source) (n d r : ℕ) (a : Code) (left new parts rest : Below) → r ≡ n + 1 → nat_lt (n + 1) (end (rows_of s) n) ≡ true → (r, a) ∷ left ≡ parts ++ rest
    → BeginsFrom (end (rows_of s) n) rest → length parts ≡ 1 → new ≡ (n, c.FieldAt (Some a) ((facts s).decl d)) ∷ left → Stands (field_behind (facts s) n d parts) n parts rest new
taken_stands s n d r a left new [] rest same child is after count st =
    absurd (no_child_there r (n + 1) (end (rows_of s) n) same child (subst (BeginsFrom (end (rows_of s) n)) (sym is) after))
taken_stands s n d r a left new (p ∷ []) rest same child is after count st =
    let one : (r, a) ≡ p = ap (first_or (r, a)) is in let tail : left ≡ rest = ap others is in
    let here : nat_eq p.0 (n + 1) ≡ true = (Decides-eqb p.0 (n + 1)).1 (ap (λ x. x.0) (sym one) ∙ same) in
    subst (λ b. Stands (cond b (code (c.FieldAt (Some p.1) ((facts s).decl d))) unknown) n (p ∷ []) rest new) (sym here)
    (st ∙ ap (λ x. (n, c.FieldAt (Some x.1) ((facts s).decl d)) ∷ left) one ∙ ap (λ all. (n, c.FieldAt (Some p.1) ((facts s).decl d)) ∷ all) tail)
taken_stands s n d r a left new (p ∷ (q ∷ all)) rest same child is after count st = absurd (omega (arith, count))

left_stands : (s : Source) (n d : ℕ) (old new parts rest : Below) → old ≡ parts ++ rest → length parts ≡ 0 → new ≡ (n, c.FieldAt None ((facts s).decl d)) ∷ old
    → Stands (field_behind (facts s) n d parts) n parts rest new
left_stands s n d old new [] rest is count st = st ∙ ap (λ all. (n, c.FieldAt None ((facts s).decl d)) ∷ all) is
left_stands s n d old new (p ∷ all) rest is count st = absurd (omega (arith, count))

behind_stands : (s : Source) (n d r : ℕ) (on : Option Code) (old left new parts rest : Below) → r ≡ n + 1 → TakesIf (Some r) old left on → nat_lt (n + 1) (end (rows_of s) n) ≡ true
    → Parted (end (rows_of s) n) old parts rest → IsOneAt n rest new → new ≡ (n, c.FieldAt on ((facts s).decl d)) ∷ left → Stands (field_behind (facts s) n d parts) n parts rest new
behind_stands s n d r (Some a) old left new parts rest same took child h lone st =
    let is : (r, a) ∷ left ≡ parts ++ rest = sym took ∙ h.is in
    taken_stands s n d r a left new parts rest same child is h.after (all_taken ((r, a) ∷ []) left parts rest is (left_count rest st lone)) st
behind_stands s n d r None old left new parts rest same took child h lone st =
    let put : new ≡ (n, c.FieldAt None ((facts s).decl d)) ∷ old = st ∙ ap (λ all. (n, c.FieldAt None ((facts s).decl d)) ∷ all) took.1 in
    left_stands s n d old new parts rest h.is (all_taken [] old parts rest h.is (left_count rest put lone)) put

pub behind_becomes : {s : Source} {n r : ℕ} {old left new : Below} (d : ℕ) (on : Option Code) → (IsReadAt s n → r ≡ n + 1) → TakesIf (Some r) old left on
    → new ≡ (n, c.FieldAt on ((facts s).decl d)) ∷ left → has_child (facts s) n ≡ true → Becomes s n (λ parts. field_behind (facts s) n d parts) old new
behind_becomes {s} {n} {r} {old} {left} {new} d on same took st child = record {
  stands = λ read parts rest h lone. behind_stands s n d r on old left new parts rest (same read) took child h lone st;
}

-- behind a dot, and alone
pub there_becomes : {s : Source} {n : ℕ} {old new : Below} (d : ℕ) (level : Option ℕ) → (IsReadAt s n → has_child (facts s) n ≡ true)
    → (has_child (facts s) n ≡ true → Becomes s n (λ parts. field_behind (facts s) n d parts) old new) → Becomes s n (λ parts. field_made (facts s) n d level parts) old new
there_becomes {s} {n} {old} {new} d level is b = record {
  stands = λ read parts rest h lone. subst (λ t. Stands (cond t (field_behind (facts s) n d parts) (field_alone (facts s) d level parts)) n parts rest new) (sym (is read))
      ((b (is read)).stands read parts rest h lone);
}

pub alone_becomes : {s : Source} {n : ℕ} {old new : Below} (d : ℕ) (level : Option ℕ) → (IsReadAt s n → has_child (facts s) n ≡ false)
    → Becomes s n (λ parts. field_alone (facts s) d level parts) old new → Becomes s n (λ parts. field_made (facts s) n d level parts) old new
alone_becomes {s} {n} {old} {new} d level is b = record {
  stands = λ read parts rest h lone. subst (λ t. Stands (cond t (field_behind (facts s) n d parts) (field_alone (facts s) d level parts)) n parts rest new) (sym (is read))
      (b.stands read parts rest h lone);
}

-- another name
pub nothing_becomes : {s : Source} {n : ℕ} {made : Below → Made} {old : Below} → ((parts : Below) → made parts ≡ nothing) → Becomes s n made old old
nothing_becomes {s} {n} {made} {old} is = record { stands = λ read parts rest h lone. subst (λ x. Stands x n parts rest old) (sym (is parts)) h.is }

-- ---- constants

pub read_along : {s : Source} {n : ℕ} {old new : Below} {A : Type 0} {x y : A} (made : A → Below → Made) → (IsReadAt s n → x ≡ y) → Becomes s n (made y) old new → Becomes s n (made x) old new
read_along {s} {n} {old} {new} {A} {x} {y} made e b = record { stands = λ read parts rest h lone. subst (λ z. Stands (made z parts) n parts rest new) (sym (e read)) (b.stands read parts rest h lone) }

pub simple_form : (f : Facts) (n : ℕ) → has_child f n ≡ false → true ≡ has_constant_form f n
simple_form f n h = sym (ap (λ b. not b || is_some (named_type f.rows f.refers n)) h)

pub form_behind : (f : Facts) (n : ℕ) (found : Option ℕ) → has_child f n ≡ true → found ≡ named_type f.rows f.refers n → is_some found ≡ has_constant_form f n
form_behind f n found h is = ap is_some is ∙ sym (ap (λ b. not b || is_some (named_type f.rows f.refers n)) h)

pub some_in : (texts : List (List ℕ)) (o : Option Value) → is_some (value_in_if texts o) ≡ is_some o
some_in texts None = refl
some_in texts (Some x) = refl
