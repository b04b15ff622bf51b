-- A reference without a spelling is as it stands.
use Rattle.std.proofs.Common.{◌≡◌, refl, sym, ◌∙◌, ap, ap₂, subst, arith, ⊎_elim, inl, inr, ℕ, ◌+◌, ◌<◌, Bool, true, false, not, cond, List, [], ◌∷◌, ◌++◌, map, reverse, take, drop, length, get_or, Option, Some, None, Result, Ok, OnOk}
use Rattle.std.specs.List.{Contains}
use Rattle.std.proofs.lemmas.Bool.{false≢true}
use Rattle.std.proofs.lemmas.List.{drop_more, map_more, take_more, take_all, reverse-append}
use Rattle.std.proofs.lemmas.List.Elements.{Contains-append_left, Contains-push, Contains-push_cases}
use Rattle.std.proofs.lemmas.Option.{none-some, same_Some}
use Rattle.jr_base.specs.declared.text.Text.{Text}
use Rattle.jr_tree.specs.declared.label.Sought.TheVariants as sought
use Rattle.jr_tree.specs.Rows.{Rows, name, sought_at}
use Rattle.jr_defs.specs.declared.referent.Referent.{Referent}
use Rattle.jr_defs.specs.Referents.{Table}
use Rattle.jr_places.specs.Names.{name_row}
use Rattle.jr_lookup.proofs.Looking.{named_first}
use Rattle.jr_shapes.specs.declared.spelling.Shape.TheVariants as shape
use Rattle.jr_shapes.specs.declared.spelling.Spelling.{Spelling}
use Rattle.jr_shapes.specs.Names.{kept, named_by}
use Rattle.jr_shapes.specs.Parts.{parts, type_of}
use Rattle.jr_spelling_rules.specs.Candidates as candidate
use Rattle.jr_spelling_rules.specs.Spelling.{Written}
use Rattle.jr_spell.specs.declared.speller.Speller.{Speller}
use Rattle.jr_spell.specs.Adding.{AreNumbersOf, AreNumbered}
use Rattle.jr_spell.specs.Forming.{has_parts}
use Rattle.jr_spell.specs.Shaping.{IsSpelled, IsTold, AreTold, KeepsAll}
use Rattle.jr_spell.specs.Spellers.{rows_of, table_of}
use Rattle.jr_spell.specs.Spelling.{IsWritten, IsNamedSo, ArePartsNamedSo, IsAsItStands, written_of}
use Rattle.jr_spell.specs.Standing.{texts_of}
use Rattle.jr_spell.proofs.Formed.{has_parts_is}
use Rattle.jr_spell.proofs.Keeping.{numbered_some}

-- ---- identifiers

-- rows whose names have one number have one name
pub named_alike : (p : Rows) (n m k : ℕ) → k ≡ name_row p n → k ≡ name_row p m → name p m ≡ name p n
named_alike p n m k a b = sym (named_first p m) ∙ ap (λ i. name p i) (sym b ∙ a) ∙ named_first p n

pub numbers_alike : (p : Rows) (texts others : List Text) (one other : List ℕ) → AreNumbersOf p texts one → AreNumbersOf p others other → one ≡ other → texts ≡ others
numbers_alike p texts others one other h k e = sym h.spells ∙ ap (λ xs. texts_of p xs) e ∙ k.spells

module _ (p : Rows) (t : Table) (n : ℕ) where
  none_by : (xs : List ℕ) → not (candidate.is_empty xs) ≡ false → xs ≡ []
  none_by [] e = refl
  none_by (x ∷ xs) e = absurd (false≢true (sym e))

  -- there are none
  pub no_parts : (found : Referent) → has_parts p t n ≡ false → ArePartsNamedSo p t n found
  no_parts found e = subst (λ xs. candidate.texts p (kept p t (type_of p found) xs) ≡ candidate.texts p xs) (sym (none_by (parts p t n) (sym (has_parts_is p t n) ∙ e))) refl

  kept_by : (xs texts : List Text) (lost : Bool) → cond lost None (Some xs) ≡ Some texts → xs ≡ texts
  kept_by xs texts true e = absurd (none-some texts e)
  kept_by xs texts false e = same_Some xs texts e

  -- the names that they have now
  pub kept_are : (texts : List Text) → candidate.kept_names p t n ≡ Some texts → candidate.texts p (kept p t (type_of p (t n)) (parts p t n)) ≡ texts
  kept_are texts e = kept_by (candidate.texts p (kept p t (type_of p (t n)) (parts p t n))) texts _ e

-- ---- what they refer to

pub trace_more : (t : Table) (parts : List ℕ) (trace : List Referent) (i left d : ℕ) (e : Referent) → i < length parts → left < length trace → drop (left + 1) trace ≡ reverse (map t (take i parts))
    → get_or trace left e ≡ t (get_or parts i d) → drop left trace ≡ reverse (map t (take (i + 1) parts))
trace_more t parts trace i left d e lt less so_far here = drop_more trace left e less ∙ ap₂ (λ x xs. x ∷ xs) here so_far
    ∙ sym (ap (λ xs. reverse xs) (map_more t parts i d lt) ∙ reverse-append (map t (take i parts)) (t (get_or parts i d) ∷ []))

-- ---- all of it

pub stands_so : (p : Rows) (t : Table) (n : ℕ) (a : Spelling) (lock : Referent) (before : List ℕ) → lock ≡ t n → a.shape ≡ shape.Kept → a.casts.items ≡ [] → a.found ≡ lock → before ≡ parts p t n → a.trace.items ≡ reverse (map t before)
    → IsNamedSo p n lock → ArePartsNamedSo p t n lock → IsAsItStands p t n (written_of a)
stands_so p t n a lock before is kept uncast found are trace named parts_named = record {
  shape_is = kept;
  uncast = uncast;
  found_is = found ∙ is;
  trace_is = trace ∙ ap (λ xs. reverse (map t xs)) are;
  named = subst (IsNamedSo p n) (sym found) named;
  parts_named = subst (ArePartsNamedSo p t n) (sym found) parts_named;
}

stands_as : (p : Rows) (t : Table) (n : ℕ) (a : Spelling) (w : Written) → a.shape ≡ w.shape → a.casts.items ≡ w.casts → a.found ≡ w.found → a.trace.items ≡ w.trace → IsAsItStands p t n (written_of a) → IsAsItStands p t n w
stands_as p t n a w shape_is casts found trace h = record {
  shape_is = sym shape_is ∙ h.shape_is;
  uncast = sym casts ∙ h.uncast;
  found_is = sym found ∙ h.found_is;
  trace_is = sym trace ∙ h.trace_is;
  named = subst (IsNamedSo p n) found h.named;
  parts_named = subst (ArePartsNamedSo p t n) found h.parts_named;
}

stands_first : (p : Rows) (t : Table) (n : ℕ) {k : ℕ} {o : Option Spelling} {q : Option Written} → IsWritten k o q → (a : Spelling) → o ≡ Some a → IsAsItStands p t n (written_of a) → (w : Written) × (q ≡ Some w) × IsAsItStands p t n w
stands_first p t n IsWritten.none a e h = absurd (none-some a e)
stands_first p t n (IsWritten.some {a = b} {w = w} row shape_is casts found trace) a e h =
    (w, refl, stands_as p t n b w shape_is casts found trace (subst (λ (x : Spelling). IsAsItStands p t n (written_of x)) (sym (same_Some b a e)) h))

-- ---- one reference, and many

module _ (s : Speller) where
  pub stays_told : (n : ℕ) (a : Spelling) (all : List Spelling) → a.row ≡ n → IsSpelled s a → IsAsItStands (rows_of s) (table_of s) n (written_of a) → IsTold s all n
  stays_told n a all e first h = subst (IsTold s all) e (λ lock. inr (λ exact. let it = stands_first (rows_of s) (table_of s) a.row (first exact) a refl (subst (λ k. IsAsItStands (rows_of s) (table_of s) k (written_of a)) (sym e) h) in
      record { written = it.0; spells = it.1; stands = it.2 }))

  pub given_told : (n : ℕ) (a : Spelling) (all both : List Spelling) → a.row ≡ n → both ≡ all ++ a ∷ [] → IsTold s both n
  given_told n a all both e made = subst (λ xs. IsTold s xs n) (sym made) (λ lock. inl (record { spelling = a; there = Contains-push all a; row_is = e }))

  -- what was told stays so
  pub told_still : (n : ℕ) (old new : List Spelling) → KeepsAll old new → IsTold s old n → IsTold s new n
  told_still n old new keeps h lock = ⊎_elim (λ k. inl (record { spelling = k.spelling; there = keeps k.spelling k.there; row_is = k.row_is })) (λ k. inr k) (h lock)

  pub none_told : (all : List Spelling) → AreTold s [] all
  none_told all = record { each = λ n h. let lt = h.1 in absurd (omega arith) }

  pub more_told : (order : List ℕ) (i d : ℕ) (old new : List Spelling) → i < length order → AreTold s (take i order) old → KeepsAll old new → IsTold s new (get_or order i d) → AreTold s (take (i + 1) order) new
  more_told order i d old new lt h keeps here = subst (λ xs. AreTold s xs new) (sym (take_more order i d lt)) (record {
    each = λ n k. ⊎_elim (λ before. told_still n old new keeps (h.each n before)) (λ e. subst (IsTold s new) e here) (Contains-push_cases (take i order) (get_or order i d) n k);
  })

  pub each_told : (order : List ℕ) (all : List Spelling) → AreTold s order all → ((n : ℕ) → (sought_at (rows_of s) n ≡ sought.Nothing → ⊥) → Contains order n) → (n : ℕ) → IsTold s all n
  each_told order all h there n lock = h.each n (there n lock.refers.occurs.seeks) lock

pub keeps_more : {A : Type 0} (all : List A) (a : A) (both : List A) → both ≡ all ++ a ∷ [] → KeepsAll all both
keeps_more all a both e = subst (λ xs. KeepsAll all xs) (sym e) (λ x h. Contains-append_left all (a ∷ []) x h)

pub when_ok : {T E : Type 0} {r : Result T E} {x : T} (P : Type 0) → r ≡ Ok x → OnOk r P → P
when_ok P e h = subst (λ r. OnOk r P) e h
