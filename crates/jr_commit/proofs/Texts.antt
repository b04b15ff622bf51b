-- The two laws of the journal: what is read is spelled so, and what is spelled so is read.
use Rattle.std.proofs.Common.{◌≡◌, ℕ, zero, suc, ◌^◌, ◌<◌, ⊎_elim, true, false, cond, ltb, eqb, List, [], ◌∷◌, ◌++◌, length, take, drop, Some, None, refl, sym, ap, subst, ◌∙◌, append_assoc, arith}
use Rattle.std.specs.Prelude.{bytes_eq, IsSome}
use Rattle.std.specs.List.{AllByRecursion}
use Rattle.std.proofs.lemmas.Bool.{le-ltb, eqb-true}
use Rattle.std.proofs.lemmas.List.{take-append-drop, length-append}
use Rattle.std.proofs.lemmas.List.Concat.{flat_map-cons}
use Rattle.std.proofs.lemmas.Slice.Eq.{bytes_eq-Decides}
use Rattle.jr_commit.specs.Entries.{Known, PlainEntry}
use Rattle.jr_commit.specs.declared.entry.Version.{Version}
use Rattle.jr_commit.specs.declared.entry.Version.TheVariants.{One, Two}
use Rattle.jr_commit.specs.Journal.{number, string, side_text, entry_text, entries_text, magic, ending, spelling, IsShaped}
use Rattle.jr_commit.specs.Reading.{◌>>=◌, number_at, string_at, side_at, tagged_at, sided_at, entry_at, entries_at, version_at, journal_at}
use Rattle.jr_commit.proofs.Fields.{IsBytes, IsBytes-drop, bind_some, pass_some, cond_parts, some_is, Takes, Takes-then, number_takes, number_again, string_takes, string_again}

IsBytes-rest : (b : ℕ) (bytes : List ℕ) → IsBytes (b ∷ bytes) → IsBytes bytes
IsBytes-rest b bytes h i = h (suc i)

-- ---- what has a text that can be read again

abbrev pub KnownFits : Known → Type 0
KnownFits None = Unit {0}
KnownFits (Some None) = Unit {0}
KnownFits (Some (Some bytes)) = length bytes < 2 ^ 32

pub record EntryFits (e : PlainEntry) : Type 0 where
  pub path : length e.0 < 2 ^ 32
  pub old : KnownFits e.1
  pub new : KnownFits e.2

-- ---- sides

none_is : {A : Type 0} (x : A) → None ≡ Some x → ⊥
none_is x h = cc h

pub side_takes : (bytes : List ℕ) (x : Known × List ℕ) → IsBytes bytes → side_at bytes ≡ Some x → Takes bytes (side_text x.0) x.1 × IsSome x.0
unfolding side_at
side_takes [] x fits e = absurd cc
side_takes (tag ∷ bytes) x fits e =
    let rest_fits = IsBytes-rest tag bytes fits in
    ⊎_elim
    (λ f.
    let a = bind_some (string_at bytes) (λ b. Some (Some (Some b.0), b.1)) x f.1 in
    let t = string_takes bytes a.0.0 a.0.1 rest_fits a.1 in
    let made : Known × List ℕ = (Some (Some a.0.0), a.0.1) in
    subst (λ (y : Known × List ℕ). Takes (tag ∷ bytes) (side_text y.0) y.1 × IsSome y.0) (some_is made x a.2)
    (record { parts = (λ i. eqb-true tag 70 f.0 i ∷ t.0.parts i); rest_fits = t.0.rest_fits }, refl))
    (λ rest.
    ⊎_elim
    (λ s.
    let made : Known × List ℕ = (Some None, bytes) in
    subst (λ (y : Known × List ℕ). Takes (tag ∷ bytes) (side_text y.0) y.1 × IsSome y.0) (some_is made x s.1)
    (record { parts = (λ i. eqb-true tag 65 s.0 i ∷ bytes); rest_fits = rest_fits }, refl))
    (λ s. absurd (none_is x s.1))
    (cond_parts (eqb tag 65) _ _ x rest.1))
    (cond_parts (eqb tag 70) _ _ x e)

pub side_again : (k : Known) (rest : List ℕ) → IsSome k → KnownFits k → side_at (side_text k ++ rest) ≡ Some (k, rest)
unfolding side_at
side_again None rest some fits = absurd cc
side_again (Some None) rest some fits = refl
side_again (Some (Some bytes)) rest some fits = ap (λ r. r >>= λ b. Some (Some (Some b.0), b.1)) (string_again bytes rest fits)

-- ---- entries

abbrev pub ReadsEntry : Version → List ℕ → PlainEntry × List ℕ → Type 0
ReadsEntry v bytes x = Takes bytes (entry_text v x.0) x.1 × IsShaped v x.0

tagged_takes : (bytes : List ℕ) (x : PlainEntry × List ℕ) → IsBytes bytes → tagged_at bytes ≡ Some x → ReadsEntry One bytes x
unfolding tagged_at
tagged_takes [] x fits e = absurd cc
tagged_takes (tag ∷ bytes) x fits e =
    let rest_fits = IsBytes-rest tag bytes fits in
    ⊎_elim
    (λ f.
    let a = bind_some (string_at bytes) (λ path. string_at path.1 >>= λ old. Some ((path.0, Some (Some old.0), None), old.1)) x f.1 in
    let b = bind_some (string_at a.0.1) (λ old. Some ((a.0.0, Some (Some old.0), None), old.1)) x a.2 in
    let t = string_takes bytes a.0.0 a.0.1 rest_fits a.1 in
    let u = string_takes a.0.1 b.0.0 b.0.1 t.0.rest_fits b.1 in
    let both = Takes-then bytes (string a.0.0) a.0.1 (string b.0.0) b.0.1 t.0 u.0 in
    let made : PlainEntry × List ℕ = ((a.0.0, Some (Some b.0.0), None), b.0.1) in
    subst (λ (y : PlainEntry × List ℕ). ReadsEntry One (tag ∷ bytes) y) (some_is made x b.2)
    (record { parts = (λ i. eqb-true tag 70 f.0 i ∷ both.parts i); rest_fits = both.rest_fits }, record { old = refl; new = refl }))
    (λ rest.
    ⊎_elim
    (λ s.
    let a = bind_some (string_at bytes) (λ path. Some ((path.0, Some None, None), path.1)) x s.1 in
    let t = string_takes bytes a.0.0 a.0.1 rest_fits a.1 in
    let made : PlainEntry × List ℕ = ((a.0.0, Some None, None), a.0.1) in
    subst (λ (y : PlainEntry × List ℕ). ReadsEntry One (tag ∷ bytes) y) (some_is made x a.2)
    (record { parts = (λ i. eqb-true tag 65 s.0 i ∷ t.0.parts i); rest_fits = t.0.rest_fits }, record { old = refl; new = refl }))
    (λ s. absurd (none_is x s.1))
    (cond_parts (eqb tag 65) _ _ x rest.1))
    (cond_parts (eqb tag 70) _ _ x e)

tagged_again : (e : PlainEntry) (rest : List ℕ) → IsShaped One e → EntryFits e → tagged_at (entry_text One e ++ rest) ≡ Some (e, rest)
unfolding tagged_at
tagged_again (path, None, new) rest shape fits = let old : IsSome {T = Known} None = shape.old in absurd cc
tagged_again (path, Some (Some bytes), new) rest shape fits =
    ap (λ r. r >>= λ p. string_at p.1 >>= λ old. Some ((p.0, Some (Some old.0), None), old.1)) (ap string_at (append_assoc (string path) (string bytes) rest) ∙ string_again path (string bytes ++ rest) fits.path)
    ∙ ap (λ r. r >>= λ old. Some ((path, Some (Some old.0), None), old.1)) (string_again bytes rest fits.old)
    ∙ ap (λ (k : Known). Some ((path, Some (Some bytes), k), rest)) (sym shape.new)
tagged_again (path, Some None, new) rest shape fits =
    ap (λ r. r >>= λ p. Some ((p.0, Some None, None), p.1)) (string_again path rest fits.path)
    ∙ ap (λ (k : Known). Some ((path, Some None, k), rest)) (sym shape.new)

sided_takes : (bytes : List ℕ) (x : PlainEntry × List ℕ) → IsBytes bytes → sided_at bytes ≡ Some x → ReadsEntry Two bytes x
unfolding sided_at
sided_takes bytes x fits e =
    let a = bind_some (string_at bytes) (λ path. side_at path.1 >>= λ old. side_at old.1 >>= λ new. Some ((path.0, old.0, new.0), new.1)) x e in
    let b = bind_some (side_at a.0.1) (λ old. side_at old.1 >>= λ new. Some ((a.0.0, old.0, new.0), new.1)) x a.2 in
    let c = bind_some (side_at b.0.1) (λ new. Some ((a.0.0, b.0.0, new.0), new.1)) x b.2 in
    let t = string_takes bytes a.0.0 a.0.1 fits a.1 in
    let u = side_takes a.0.1 b.0 t.0.rest_fits b.1 in
    let w = side_takes b.0.1 c.0 u.0.rest_fits c.1 in
    let sides = Takes-then a.0.1 (side_text b.0.0) b.0.1 (side_text c.0.0) c.0.1 u.0 w.0 in
    let both = Takes-then bytes (string a.0.0) a.0.1 (side_text b.0.0 ++ side_text c.0.0) c.0.1 t.0 sides in
    let made : PlainEntry × List ℕ = ((a.0.0, b.0.0, c.0.0), c.0.1) in
    subst (λ (y : PlainEntry × List ℕ). ReadsEntry Two bytes y) (some_is made x c.2) (both, record { old = u.1; new = w.1 })

sided_again : (e : PlainEntry) (rest : List ℕ) → IsShaped Two e → EntryFits e → sided_at (entry_text Two e ++ rest) ≡ Some (e, rest)
unfolding sided_at
sided_again e rest shape fits =
    let sides = side_text e.1 ++ side_text e.2 in
    let regrouped : (string e.0 ++ sides) ++ rest ≡ string e.0 ++ (side_text e.1 ++ (side_text e.2 ++ rest)) = append_assoc (string e.0) sides rest ∙ ap (λ (l : List ℕ). string e.0 ++ l) (append_assoc (side_text e.1) (side_text e.2) rest) in
    ap (λ r. r >>= λ path. side_at path.1 >>= λ old. side_at old.1 >>= λ new. Some ((path.0, old.0, new.0), new.1)) (ap string_at regrouped ∙ string_again e.0 (side_text e.1 ++ (side_text e.2 ++ rest)) fits.path)
    ∙ ap (λ r. r >>= λ old. side_at old.1 >>= λ new. Some ((e.0, old.0, new.0), new.1)) (side_again e.1 (side_text e.2 ++ rest) shape.old fits.old)
    ∙ ap (λ r. r >>= λ new. Some ((e.0, e.1, new.0), new.1)) (side_again e.2 rest shape.new fits.new)

entry_takes : (v : Version) (bytes : List ℕ) (x : PlainEntry × List ℕ) → IsBytes bytes → entry_at v bytes ≡ Some x → ReadsEntry v bytes x
entry_takes One bytes x fits e = tagged_takes bytes x fits e
entry_takes Two bytes x fits e = sided_takes bytes x fits e

entry_again : (v : Version) (e : PlainEntry) (rest : List ℕ) → IsShaped v e → EntryFits e → entry_at v (entry_text v e ++ rest) ≡ Some (e, rest)
entry_again One e rest shape fits = tagged_again e rest shape fits
entry_again Two e rest shape fits = sided_again e rest shape fits

pub entries_cons : (v : Version) (e : PlainEntry) (es : List PlainEntry) → entries_text v (e ∷ es) ≡ entry_text v e ++ entries_text v es
entries_cons v e es = flat_map-cons (entry_text v) e es

pub record ReadsEntries (v : Version) (n : ℕ) (bytes : List ℕ) (x : List PlainEntry × List ℕ) : Type 0 where
  pub takes : Takes bytes (entries_text v x.0) x.1
  pub shaped : AllByRecursion (IsShaped v) x.0
  pub count : length x.0 ≡ n

entries_take : (v : Version) (n : ℕ) (bytes : List ℕ) (x : List PlainEntry × List ℕ) → IsBytes bytes → entries_at v n bytes ≡ Some x → ReadsEntries v n bytes x
unfolding entries_at
entries_take v zero bytes x fits e =
    subst (λ (y : List PlainEntry × List ℕ). ReadsEntries v 0 bytes y) (some_is ([], bytes) x e) (record { takes = record { parts = refl; rest_fits = fits }; shaped = tt; count = refl })
entries_take v (suc n) bytes x fits e =
    let a = bind_some (entry_at v bytes) (λ first. entries_at v n first.1 >>= λ others. Some (first.0 ∷ others.0, others.1)) x e in
    let b = bind_some (entries_at v n a.0.1) (λ others. Some (a.0.0 ∷ others.0, others.1)) x a.2 in
    let first = entry_takes v bytes a.0 fits a.1 in
    let second = entries_take v n a.0.1 b.0 first.0.rest_fits b.1 in
    let both = Takes-then bytes (entry_text v a.0.0) a.0.1 (entries_text v b.0.0) b.0.1 first.0 second.takes in
    let made : List PlainEntry × List ℕ = (a.0.0 ∷ b.0.0, b.0.1) in
    subst (λ (y : List PlainEntry × List ℕ). ReadsEntries v (suc n) bytes y) (some_is made x b.2)
    (record {
      takes = subst (λ (l : List ℕ). Takes bytes l b.0.1) (sym (entries_cons v a.0.0 b.0.0)) both;
      shaped = (first.1, second.shaped);
      count = ap suc second.count;
    })

entries_again : (v : Version) (es : List PlainEntry) (rest : List ℕ) → AllByRecursion (IsShaped v) es → AllByRecursion EntryFits es → entries_at v (length es) (entries_text v es ++ rest) ≡ Some (es, rest)
unfolding entries_at
entries_again v [] rest shaped fits = refl
entries_again v (e ∷ es) rest shaped fits =
    let regrouped : entries_text v (e ∷ es) ++ rest ≡ entry_text v e ++ (entries_text v es ++ rest) = ap (λ (l : List ℕ). l ++ rest) (entries_cons v e es) ∙ append_assoc (entry_text v e) (entries_text v es) rest in
    ap (entries_at v (suc (length es))) regrouped
    ∙ ap (λ r. r >>= λ first. entries_at v (length es) first.1 >>= λ others. Some (first.0 ∷ others.0, others.1)) (entry_again v e (entries_text v es ++ rest) shaped.0 fits.0)
    ∙ ap (λ r. r >>= λ others. Some (e ∷ others.0, others.1)) (entries_again v es rest shaped.1 fits.1)

-- ---- the whole journal

version_takes : (bytes : List ℕ) (x : Version × List ℕ) → IsBytes bytes → version_at bytes ≡ Some x → Takes bytes (magic x.0) x.1
unfolding version_at
version_takes bytes x fits e =
    ⊎_elim (λ short. absurd (none_is x short.1))
    (λ long.
    ⊎_elim (λ one. here One one.0 one.1)
    (λ more.
    ⊎_elim (λ two. here Two two.0 two.1) (λ none. absurd (none_is x none.1)) (cond_parts (bytes_eq (take 5 bytes) (magic Two)) _ _ x more.1))
    (cond_parts (bytes_eq (take 5 bytes) (magic One)) _ _ x long.1))
    (cond_parts (ltb (length bytes) 5) None _ x e)
  where
    here : (v : Version) → bytes_eq (take 5 bytes) (magic v) ≡ true → Some (v, drop 5 bytes) ≡ Some x → Takes bytes (magic x.0) x.1
    here v same is =
        let front : take 5 bytes ≡ magic v = (bytes_eq-Decides (take 5 bytes) (magic v)).0 same in
        let made : Version × List ℕ = (v, drop 5 bytes) in
        subst (λ (y : Version × List ℕ). Takes bytes (magic y.0) y.1) (some_is made x is)
        (record { parts = sym (take-append-drop 5 bytes) ∙ ap (λ (l : List ℕ). l ++ drop 5 bytes) front; rest_fits = IsBytes-drop 5 bytes fits })

version_again : (v : Version) (rest : List ℕ) → version_at (magic v ++ rest) ≡ Some (v, rest)
unfolding version_at
version_again One rest =
    let long : ltb (length (magic One ++ rest)) 5 ≡ false = le-ltb _ _ (omega (arith, length-append (magic One) rest)) in
    ap (λ b. cond b None (Some (One, rest))) long
version_again Two rest =
    let long : ltb (length (magic Two ++ rest)) 5 ≡ false = le-ltb _ _ (omega (arith, length-append (magic Two) rest)) in
    ap (λ b. cond b None (Some (Two, rest))) long

pub record ReadsJournal (bytes : List ℕ) (x : Version × List PlainEntry) : Type 0 where
  pub spelled : bytes ≡ spelling x.0 x.1
  pub shaped : AllByRecursion (IsShaped x.0) x.1
  pub count : length x.1 < 2 ^ 32

pub journal_takes : (bytes : List ℕ) (x : Version × List PlainEntry) → IsBytes bytes → journal_at bytes ≡ Some x → ReadsJournal bytes x
unfolding journal_at
journal_takes bytes x fits e =
    let a = bind_some (version_at bytes) (λ v. number_at v.1 >>= λ n. entries_at v.0 n.0 n.1 >>= λ es. cond (bytes_eq es.1 ending) (Some (v.0, es.0)) None) x e in
    let b = bind_some (number_at a.0.1) (λ n. entries_at a.0.0 n.0 n.1 >>= λ es. cond (bytes_eq es.1 ending) (Some (a.0.0, es.0)) None) x a.2 in
    let c = bind_some (entries_at a.0.0 b.0.0 b.0.1) (λ es. cond (bytes_eq es.1 ending) (Some (a.0.0, es.0)) None) x b.2 in
    let made : Version × List PlainEntry = (a.0.0, c.0.0) in
    let g = pass_some (bytes_eq c.0.1 ending) made x c.2 in
    let v = a.0.0 in
    let first = version_takes bytes a.0 fits a.1 in
    let second = number_takes a.0.1 b.0.0 b.0.1 first.rest_fits b.1 in
    let third = entries_take v b.0.0 b.0.1 c.0 second.0.rest_fits c.1 in
    let last : c.0.1 ≡ ending = (bytes_eq-Decides c.0.1 ending).0 g.0 in
    let whole : bytes ≡ magic v ++ (number b.0.0 ++ (entries_text v c.0.0 ++ c.0.1)) = first.parts ∙ ap (λ (l : List ℕ). magic v ++ l) (second.0.parts ∙ ap (λ (l : List ℕ). number b.0.0 ++ l) third.takes.parts) in
    let spelled : bytes ≡ spelling v c.0.0 = whole ∙ (λ i. magic v ++ (number (sym third.count i) ++ (entries_text v c.0.0 ++ last i))) in
    subst (λ (y : Version × List PlainEntry). ReadsJournal bytes y) g.1 (record { spelled = spelled; shaped = third.shaped; count = omega (arith, second.1, third.count) })

pub journal_again : (v : Version) (es : List PlainEntry) → AllByRecursion (IsShaped v) es → AllByRecursion EntryFits es → length es < 2 ^ 32 → journal_at (spelling v es) ≡ Some (v, es)
unfolding journal_at
journal_again v es shaped fits lt =
    ap (λ r. r >>= λ w. number_at w.1 >>= λ n. entries_at w.0 n.0 n.1 >>= λ x. cond (bytes_eq x.1 ending) (Some (w.0, x.0)) None) (version_again v (number (length es) ++ (entries_text v es ++ ending)))
    ∙ ap (λ r. r >>= λ n. entries_at v n.0 n.1 >>= λ x. cond (bytes_eq x.1 ending) (Some (v, x.0)) None) (number_again (length es) (entries_text v es ++ ending) lt)
    ∙ ap (λ r. r >>= λ x. cond (bytes_eq x.1 ending) (Some (v, x.0)) None) (entries_again v es ending shaped fits)
