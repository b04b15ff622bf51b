-- The differences of two maps of files are the entries of a plan.
use Rattle.std.proofs.Common.{◌≡◌, ◌≢◌, List, [], ◌∷◌, ℕ, ◌≤◌, ◌<◌, ◌^◌, ◌++◌, true, false, cond, map, filter, not, length, refl, sym, ◌∙◌, ap, subst, Some, None, arith}
use Rattle.std.specs.Prelude.{Option, IsTrue, bytes_eq}
use Rattle.std.specs.List.{AllByRecursion}
use Rattle.std.proofs.lemmas.List.{length-map, length-append}
use Rattle.std.specs.FinMap as finite
use Rattle.std.proofs.lemmas.Slice.Eq.{bytes_eq-Decides}
use Rattle.jr_base.specs.Files.{FileMap}
use Rattle.jr_base.specs.Paths.{IsPath, is_java}
use Rattle.jr_store.specs.Image.{AreJava}
use Rattle.jr_commit.specs.SidesAt.{paths_of}
use Rattle.jr_commit.specs.Entries.{PlainEntry, names_of}
use Rattle.jr_commit.specs.declared.entry.Version.TheVariants.{Two}
use Rattle.jr_commit.specs.Journal.{spelling, magic, number, ending, entries_text, new_sides, IsShaped, IsChange, IsIn, IsRising}
use Rattle.jr_commit.specs.Restoring.{journal_path, gate_path}
use Rattle.jr_commit.specs.Planned.{IsPlan}
use Rattle.jr_commit.specs.Differences.{Pair, pairs, same_side, entry_of, changes, differences}
use Rattle.jr_commit.proofs.Exact.{entries_fit}
use Rattle.jr_commit.proofs.Merging.{all_pairs, all_changes, changes_names, differences_rise, rises_of}

true_for_all : (P : Pair → Type 0) → ((p : Pair) → P p) → (ps : List Pair) → AllByRecursion P ps
true_for_all P each [] = tt
true_for_all P each (p ∷ ps) = (each p, true_for_all P each ps)

-- sides that differ by the test differ
differs : (a b : Option (List ℕ)) → same_side a b ≡ false → Some a ≢ Some b
differs None None differ = λ _. cc differ
differs None (Some b) differ = λ is. cc is
differs (Some a) None differ = λ is. cc is
differs (Some a) (Some b) differ = λ is.
    let one : a ≡ b = cc is in
    let same : bytes_eq a b ≡ true = (bytes_eq-Decides a b).1 one in
    cc (same, differ)

pub changes_shaped : (ps : List Pair) → AllByRecursion (IsShaped Two) (changes ps)
changes_shaped ps = all_changes (IsShaped Two) ps (true_for_all (λ p. (same_side p.1 p.2 ≡ false) → IsShaped Two (entry_of p)) (λ p _. record { old = refl; new = refl }) ps)

pub changes_differ : (ps : List Pair) → AllByRecursion (λ e. e.1 ≢ e.2) (changes ps)
changes_differ ps = all_changes (λ e. e.1 ≢ e.2) ps (true_for_all (λ p. (same_side p.1 p.2 ≡ false) → Some p.1 ≢ Some p.2) (λ p. differs p.1 p.2) ps)

together : (es : List PlainEntry) → AllByRecursion (λ e. IsPath e.0) es → AllByRecursion (λ p. IsTrue (is_java p)) (names_of es) → AllByRecursion (λ e. e.1 ≢ e.2) es → AllByRecursion IsChange es
together [] paths java differ = tt
together (e ∷ es) paths java differ = (record { path = paths.0; java = java.0; differ = differ.0 }, together es paths.1 java.1 differ.1)

-- each change has a new side
pub names_news : (ps : List Pair) → paths_of (new_sides (changes ps)) ≡ names_of (changes ps)
names_news [] = refl
names_news (p ∷ ps) =
    elim (same_side p.1 p.2) as (λ b. paths_of (new_sides (map entry_of (cond (not b) (p ∷ filter (λ q. not (same_side q.1 q.2)) ps) (filter (λ q. not (same_side q.1 q.2)) ps)))) ≡ names_of (map entry_of (cond (not b) (p ∷ filter (λ q. not (same_side q.1 q.2)) ps) (filter (λ q. not (same_side q.1 q.2)) ps)))) [
      | true ↦ names_news ps
      | false ↦ ap (λ (l : List (List ℕ)). p.0 ∷ l) (names_news ps)
    ]

one_at_least : (es : List PlainEntry) → new_sides es ≢ [] → 1 ≤ length es
one_at_least [] some = absurd (some refl)
one_at_least (e ∷ es) some = omega arith

pub rise_differences : (old new : FileMap) → IsRising (names_of (differences old new))
rise_differences old new = differences_rise (finite.entries old) (finite.entries new) (rises_of (finite.entries old) (finite.entries_sorted old)) (rises_of (finite.entries new) (finite.entries_sorted new))

pub differences_in : (old new : FileMap) → AreJava (finite.keys old) → AreJava (finite.keys new) → AllByRecursion (λ e. IsPath e.0) (differences old new) → length (spelling Two (differences old new)) ≤ 50331648
    → new_sides (differences old new) ≢ [] → IsIn Two (spelling Two (differences old new)) (differences old new)
differences_in old new java_old java_new paths short some =
    let ps = pairs (finite.entries old) (finite.entries new) in
    let java = changes_names (λ p. IsTrue (is_java p)) ps (all_pairs (λ p. IsTrue (is_java p)) (finite.entries old) (finite.entries new) java_old java_new) in
    record {
      spelled = refl;
      shaped = changes_shaped ps;
      changes = together (changes ps) paths java (changes_differ ps);
      rising = rise_differences old new;
      enough = one_at_least (changes ps) some;
      short = short;
    }

pub plan_is : (old new : FileMap) → AreJava (finite.keys old) → AreJava (finite.keys new) → AllByRecursion (λ e. IsPath e.0) (differences old new) → length (spelling Two (differences old new)) ≤ 50331648
    → IsPlan (spelling Two (differences old new)) (new_sides (differences old new)) journal_path gate_path
plan_is old new java_old java_new paths short =
    let ps = pairs (finite.entries old) (finite.entries new) in
    record {
      ordered = subst IsRising (sym (names_news ps)) (rise_differences old new);
      entries = λ some. (differences old new, differences_in old new java_old java_new paths short some, sym (names_news ps));
      journal_is = λ _. refl;
      gate_is = λ _. refl;
    }

-- there are as many steps as entries, and they can be counted in four bytes
pub count_news : (ps : List Pair) → length (new_sides (changes ps)) ≡ length (changes ps)
count_news ps = sym (length-map {B = List ℕ} (new_sides (changes ps)) (λ e. e.0)) ∙ ap length (names_news ps) ∙ length-map {B = List ℕ} (changes ps) (λ e. e.0)

pub count_small : (ps : List Pair) → length (spelling Two (changes ps)) ≤ 50331648 → length (changes ps) < 2 ^ 32
count_small ps short =
    let es = changes ps in
    let a = length-append (magic Two) (number (length es) ++ (entries_text Two es ++ ending)) in
    let b = length-append (number (length es)) (entries_text Two es ++ ending) in
    let c = length-append (entries_text Two es) ending in
    let fits = entries_fit Two es (changes_shaped ps) (omega (arith, a, b, c)) in
    omega (arith, a, b, c, fits.1)

pub made_of : (journal text : List ℕ) (n : ℕ) (es : List PlainEntry) → journal ≡ magic Two ++ (number n ++ (text ++ ending)) → n ≡ length es → text ≡ entries_text Two es → journal ≡ spelling Two es
made_of journal text n es is count written = is ∙ (λ i. magic Two ++ (number (count i) ++ (written i ++ ending)))
