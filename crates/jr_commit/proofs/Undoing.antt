-- The change back, from the entries of the journal.
use Rattle.std.proofs.Common.{◌≡◌, ◌≢◌, ◌⊎◌, List, [], ◌∷◌, ℕ, ◌≤◌, ◌<◌, ◌^◌, ◌+◌, ◌++◌, suc, Bool, true, false, cond, map, filter, not, length, take, refl, sym, ◌∙◌, ap, subst, Option, Some, None, arith, inl, inr}
use Rattle.std.specs.Prelude.{◌↔◌, IsSome, IsTrue, bytes_eq, option_map}
use Rattle.std.specs.List.{AllByRecursion}
use Rattle.std.proofs.lemmas.Bool.{false≢true}
use Rattle.std.proofs.lemmas.List.{length-map, length-append, take_all}
use Rattle.std.proofs.lemmas.Option.{same_Some, none-some}
use Rattle.std.proofs.lemmas.Slice.Eq.{bytes_eq-Decides}
use Rattle.jr_base.specs.Paths.{is_java}
use Rattle.jr_store.specs.Image.{Image, Reads}
use Rattle.jr_store.specs.Sides.{put_side, IsNoneOf}
use Rattle.jr_commit.specs.Differences.{Pair, same_side, entry_of, changes}
use Rattle.jr_commit.specs.Entries.{Known, PlainEntry, names_of}
use Rattle.jr_commit.specs.Journal.{spelling, side_text, string, entry_text, entries_text, old_sides, new_sides, IsShaped, IsChange, IsIn, IsJournal, IsRising, PutsBack}
use Rattle.jr_commit.specs.Planned.{Planned, IsPlan, HasEntries}
use Rattle.jr_commit.specs.Restoring.{journal_path, gate_path}
use Rattle.jr_commit.specs.SidesAt.{SideAt, with_sides, paths_of, IsOff}
use Rattle.jr_commit.specs.Undoing.{KeepsBoth, HoldsNew, exchanged, TakesBack, bytes_of, pair_back, pairs_back}
use Rattle.jr_commit.specs.declared.entry.Version.TheVariants.{One, Two}
use Rattle.jr_commit.proofs.Exact.{one_journal, entries_fit}
use Rattle.jr_commit.proofs.Found.{whole_file}
use Rattle.jr_commit.proofs.Lengths.{spelling_size}
use Rattle.jr_commit.proofs.Merging.{Below, Rises, below_trans, less_differs}
use Rattle.jr_commit.proofs.Olds.{names_olds, length_olds}
use Rattle.jr_commit.proofs.Putting.{put_here, put_elsewhere, with_sides_off}
use Rattle.jr_commit.proofs.Texts.{entries_cons}

-- ---- the entries of the change back

pub names_exchanged : (es : List PlainEntry) → names_of (exchanged es) ≡ names_of es
names_exchanged [] = refl
names_exchanged (e ∷ es) = ap (λ (l : List (List ℕ)). e.0 ∷ l) (names_exchanged es)

shaped_exchanged : (es : List PlainEntry) → AllByRecursion (IsShaped Two) es → AllByRecursion (IsShaped Two) (exchanged es)
shaped_exchanged [] all = tt
shaped_exchanged (e ∷ es) all = (record { old = all.0.new; new = all.0.old }, shaped_exchanged es all.1)

changes_exchanged : (es : List PlainEntry) → AllByRecursion IsChange es → AllByRecursion IsChange (exchanged es)
changes_exchanged [] all = tt
changes_exchanged (e ∷ es) all = (record { path = all.0.path; java = all.0.java; differ = λ same. all.0.differ (sym same) }, changes_exchanged es all.1)

entry_size : (e : PlainEntry) → length (entry_text Two (e.0, e.2, e.1)) ≡ length (entry_text Two e)
entry_size e =
    let a = length-append (string e.0) (side_text e.1 ++ side_text e.2) in
    let b = length-append (side_text e.1) (side_text e.2) in
    let c = length-append (string e.0) (side_text e.2 ++ side_text e.1) in
    let d = length-append (side_text e.2) (side_text e.1) in
    omega (arith, a, b, c, d)

text_size : (es : List PlainEntry) → length (entries_text Two (exchanged es)) ≡ length (entries_text Two es)
text_size [] = refl
text_size (e ∷ es) =
    let long = ap length (entries_cons Two e es) ∙ length-append (entry_text Two e) (entries_text Two es) in
    let back = ap length (entries_cons Two (e.0, e.2, e.1) (exchanged es)) ∙ length-append (entry_text Two (e.0, e.2, e.1)) (entries_text Two (exchanged es)) in
    omega (arith, long, back, entry_size e, text_size es)

pub is_exchanged : (bytes : List ℕ) (es : List PlainEntry) → IsIn Two bytes es → IsIn Two (spelling Two (exchanged es)) (exchanged es)
is_exchanged bytes es is = record {
  spelled = refl;
  shaped = shaped_exchanged es is.shaped;
  changes = changes_exchanged es is.changes;
  rising = subst IsRising (sym (names_exchanged es)) is.rising;
  enough = omega (arith, is.enough, length-map {B = PlainEntry} es (λ e. (e.0, e.2, e.1)));
  short = omega (arith, is.short, ap length is.spelled, spelling_size es, spelling_size (exchanged es), text_size es);
}

-- ---- as changes of pairs

sides_differ : (a b : Option (List ℕ)) → Some a ≢ Some b → same_side a b ≡ false
sides_differ a b differ = decided (same_side a b) refl
  where
    same : (a b : Option (List ℕ)) → same_side a b ≡ true → a ≡ b
    same None None is = refl
    same None (Some y) is = absurd cc
    same (Some x) None is = absurd cc
    same (Some x) (Some y) is = ap Some ((bytes_eq-Decides x y).0 is)

    decided : (r : Bool) → same_side a b ≡ r → same_side a b ≡ false
    decided true is = absurd (differ (ap Some (same a b is)))
    decided false is = is

known : (k : Known) → IsSome k → Some (bytes_of k) ≡ k
known None some = absurd cc
known (Some side) some = refl

pub changes_back : (es : List PlainEntry) → AllByRecursion (IsShaped Two) es → AllByRecursion IsChange es → changes (pairs_back es) ≡ exchanged es
changes_back [] shaped all = refl
changes_back (e ∷ es) shaped all =
    let new = known e.2 shaped.0.new in
    let old = known e.1 shaped.0.old in
    let differ : same_side (bytes_of e.2) (bytes_of e.1) ≡ false = sides_differ (bytes_of e.2) (bytes_of e.1) (λ same. all.0.differ (sym old ∙ sym same ∙ new)) in
    (λ i. map entry_of (cond (not (differ i)) (pair_back e ∷ filter (λ q. not (same_side q.1 q.2)) (pairs_back es)) (filter (λ q. not (same_side q.1 q.2)) (pairs_back es))))
    ∙ (λ i. (e.0, new i, old i) ∷ changes_back es shaped.1 all.1 i)

pub text_short : (bytes : List ℕ) (es : List PlainEntry) → IsIn Two bytes es → length (entries_text Two (changes (pairs_back es))) < 2 ^ 32
text_short bytes es is =
    let back : length (entries_text Two (changes (pairs_back es))) ≡ length (entries_text Two (exchanged es)) = ap (λ l. length (entries_text Two l)) (changes_back es is.shaped is.changes) in
    omega (arith, back, text_size es, spelling_size es, ap length is.spelled, is.short)

pub news_exchanged : (es : List PlainEntry) → new_sides (exchanged es) ≡ old_sides es
news_exchanged [] = refl
news_exchanged ((path, None, new) ∷ es) = news_exchanged es
news_exchanged ((path, Some old, new) ∷ es) = ap (λ (l : List SideAt). (path, old) ∷ l) (news_exchanged es)

pub olds_exchanged : (es : List PlainEntry) → old_sides (exchanged es) ≡ new_sides es
olds_exchanged [] = refl
olds_exchanged ((path, old, None) ∷ es) = olds_exchanged es
olds_exchanged ((path, old, Some new) ∷ es) = ap (λ (l : List SideAt). (path, new) ∷ l) (olds_exchanged es)

-- there are as many steps as entries, and they can be counted in four bytes
pub count_back : (bytes : List ℕ) (es : List PlainEntry) → IsIn Two bytes es → (length (old_sides es) ≡ length es) × (length es < 2 ^ 32)
count_back bytes es is =
    let fits = entries_fit Two es is.shaped (omega (arith, spelling_size es, ap length is.spelled, is.short)) in
    (length_olds Two es is.shaped, omega (arith, fits.1, spelling_size es, ap length is.spelled, is.short))

-- ---- the plan

pub plan_is : (bytes : List ℕ) (es : List PlainEntry) → IsIn Two bytes es → IsPlan (spelling Two (exchanged es)) (old_sides es) journal_path gate_path
plan_is bytes es is = record {
  ordered = subst IsRising (sym (names_olds Two es is.shaped)) is.rising;
  entries = λ some. (exchanged es, is_exchanged bytes es is, names_exchanged es ∙ sym (names_olds Two es is.shaped));
  journal_is = λ _. refl;
  gate_is = λ _. refl;
}

pub news_held : (files : Image) (es : List PlainEntry) → AllByRecursion (HoldsNew files) es → AllByRecursion (λ e. files e.0 ≡ e.1) (new_sides es)
news_held files [] all = tt
news_held files ((path, old, None) ∷ es) all = news_held files es all.1
news_held files ((path, old, Some new) ∷ es) all = (sym (same_Some new (files path) all.0), news_held files es all.1)

pub takes_back : (bytes : List ℕ) (es : List PlainEntry) (plan : Planned) → IsIn Two bytes es → plan.journal ≡ spelling Two (exchanged es) → plan.steps ≡ old_sides es → TakesBack es plan
takes_back bytes es plan is journal_is steps_are =
    let again : IsIn Two plan.journal (exchanged es) = subst (λ (b : List ℕ). IsIn Two b (exchanged es)) (sym journal_is) (is_exchanged bytes es is) in
    record {
      journal = journal_is;
      steps = steps_are;
      again = again;
      olds = λ files held olds puts.
          let made : PutsBack plan.journal (old_sides (exchanged es)) = record { version = Two; entries = exchanged es; journal = again; sides = refl } in
          let one : olds ≡ new_sides es = one_journal plan.journal olds (old_sides (exchanged es)) puts made ∙ olds_exchanged es in
          subst (λ (l : List SideAt). AllByRecursion (λ e. files e.0 ≡ e.1) l) (sym one) (news_held files es held);
    }

-- ---- what the plan leaves can be taken back again

rises_of : (ps : List (List ℕ)) → IsRising ps → Rises ps
rises_of [] rising = tt
rises_of (p ∷ []) rising = (tt, tt)
rises_of (p ∷ q ∷ ps) rising = let rest = rises_of (q ∷ ps) rising.1 in ((rising.0, below_trans p q ps rising.0 rest.0), rest)

off_below : (p : List ℕ) (ps : List (List ℕ)) → Below p ps → IsNoneOf ps p
off_below p [] below = tt
off_below p (q ∷ ps) below = (less_differs p q below.0, off_below p ps below.1)

-- each path has the side that was put at it
pub sides_put : (ss : List SideAt) (f : Image) → Rises (paths_of ss) → AllByRecursion (λ s. with_sides ss f s.0 ≡ s.1) ss
sides_put [] f rising = tt
sides_put (s ∷ ss) f rising =
    (with_sides_off ss (put_side s.0 s.1 f) s.0 (off_below s.0 (paths_of ss) rising.0) ∙ put_here s.0 s.0 s.1 f refl, sides_put ss (put_side s.0 s.1 f) rising.1)

olds_held : (files : Image) (es : List PlainEntry) → AllByRecursion (IsShaped Two) es → AllByRecursion (λ s. files s.0 ≡ s.1) (old_sides es) → AllByRecursion (HoldsNew files) (exchanged es)
olds_held files [] shaped all = tt
olds_held files ((path, None, new) ∷ es) shaped all = let old : IsSome {T = Option (List ℕ)} None = shaped.0.old in absurd cc
olds_held files ((path, Some old, new) ∷ es) shaped all = (ap Some (sym all.0), olds_held files es shaped.1 all.1)

pub undone_holds : (bytes : List ℕ) (es : List PlainEntry) (f : Image) → IsIn Two bytes es → AllByRecursion (HoldsNew (with_sides (old_sides es) f)) (exchanged es)
undone_holds bytes es f is =
    olds_held (with_sides (old_sides es) f) es is.shaped (sides_put (old_sides es) f (subst Rises (sym (names_olds Two es is.shaped)) (rises_of (names_of es) is.rising)))

pub planned_as : (journal made at_journal at_gate : List ℕ) (steps sides : List SideAt) → IsPlan made sides journal_path gate_path → journal ≡ made → steps ≡ sides → at_journal ≡ journal_path → at_gate ≡ gate_path
    → IsPlan journal steps at_journal at_gate
planned_as journal made at_journal at_gate steps sides is journal_is steps_are at_is gate_is = record {
  ordered = subst (λ (l : List SideAt). IsRising (paths_of l)) (sym steps_are) is.ordered;
  entries = λ some. subst (λ (l : List SideAt). HasEntries journal l) (sym steps_are) (subst (λ (b : List ℕ). HasEntries b sides) (sym journal_is) (is.entries (λ none. some (steps_are ∙ none))));
  journal_is = λ some. at_is;
  gate_is = λ some. gate_is;
}

-- the steps of a plan can be counted in four bytes
pub count_planned : (journal at_journal at_gate : List ℕ) (steps : List SideAt) → IsPlan journal steps at_journal at_gate → length steps < 2 ^ 32
count_planned journal at_journal at_gate [] is = omega arith
count_planned journal at_journal at_gate (s ∷ steps) is =
    let has : HasEntries journal (s ∷ steps) = is.entries (λ none. cc none) in
    let same : length (names_of has.0) ≡ length (paths_of (s ∷ steps)) = ap length has.2 in
    omega (arith, (count_back journal has.0 has.1).1, same, length-map {B = List ℕ} has.0 (λ e. e.0), length-map {B = List ℕ} (s ∷ steps) (λ e. e.0))

-- ---- what a read says of the side that a path holds

abbrev known_absent : Known
known_absent = Some None

module _ (told : Option Image) (path : List ℕ) (f : Image) (is : told ≡ Some f) where
  seen : (most : ℕ) (found : Option (List ℕ)) → Reads told path most found → found ≡ option_map (take most) (f path)
  seen most found reads = subst (λ (t : Option Image). Reads t path most found) is reads

  none_there : (most : ℕ) (o : Option (List ℕ)) → f path ≡ o → None ≡ option_map (take most) o → f path ≡ None
  none_there most None at is_none = at
  none_there most (Some bytes) at is_none = absurd (none-some (take most bytes) is_none)

  pub absent_some : (most : ℕ) (bytes : List ℕ) → Reads told path most (Some bytes) → IsTrue false ↔ (known_absent ≡ Some (f path))
  absent_some most bytes reads = (λ no. absurd (false≢true no), λ at. absurd (none-some bytes (sym (seen most (Some bytes) reads ∙ ap (option_map (take most)) (sym (same_Some None (f path) at))))))

  pub absent_none : (most : ℕ) → Reads told path most None → IsTrue true ↔ (known_absent ≡ Some (f path))
  absent_none most reads = (λ _. ap Some (sym (none_there most (f path) refl (seen most None reads))), λ _. refl)

  pub held_none : (most : ℕ) (bytes : List ℕ) → Reads told path most None → IsTrue false ↔ (Some (Some bytes) ≡ Some (f path))
  held_none most bytes reads = (λ no. absurd (false≢true no), λ at. absurd (none-some (take most bytes) (seen most None reads ∙ ap (option_map (take most)) (sym (same_Some (Some bytes) (f path) at)))))

  pub held_some : (most : ℕ) (bytes found : List ℕ) (says : Bool) → length bytes < most → says ≡ bytes_eq found bytes → Reads told path most (Some found) → IsTrue says ↔ (Some (Some bytes) ≡ Some (f path))
  held_some most bytes found says short is_so reads = (
    λ t.
        let same : found ≡ bytes = (bytes_eq-Decides found bytes).0 (sym is_so ∙ t) in
        ap Some (sym (whole_file f path bytes most (f path) refl short (ap Some (sym same) ∙ seen most (Some found) reads))),
    λ at.
        let there : f path ≡ Some bytes = sym (same_Some (Some bytes) (f path) at) in
        let took : found ≡ take most bytes = same_Some found (take most bytes) (seen most (Some found) reads ∙ ap (option_map (take most)) there) in
        is_so ∙ (bytes_eq-Decides found bytes).1 (took ∙ take_all most bytes (omega (arith, short))),
  )

  -- a file that a read does not find is not there
  pub not_there : (most : ℕ) → path ≡ journal_path → Reads told path most None → f journal_path ≡ None
  not_there most at reads = ap f (sym at) ∙ none_there most (f path) refl (seen most None reads)

  -- a journal that was read stands there
  whole_there : (most : ℕ) (bytes : List ℕ) → length bytes < most → path ≡ journal_path → Reads told path most (Some bytes) → f journal_path ≡ Some bytes
  whole_there most bytes short at reads = ap f (sym at) ∙ whole_file f path bytes most (f path) refl short (seen most (Some bytes) reads)

  pub keeps_both : (most : ℕ) (bytes : List ℕ) (es : List PlainEntry) → 50331648 < most → path ≡ journal_path → Reads told path most (Some bytes) → IsIn Two bytes es → KeepsBoth f es
  keeps_both most bytes es room at reads is_in = (bytes, whole_there most bytes (omega (arith, room, is_in.short)) at reads, is_in)

  -- one that was read in part is too long for a journal
  pub one_sided : (most : ℕ) (bytes : List ℕ) → 50331648 < most → path ≡ journal_path → Reads told path most (Some bytes) → ((es : List PlainEntry) → IsIn Two bytes es → ⊥)
      → IsSome (f journal_path) × ((es : List PlainEntry) → KeepsBoth f es → ⊥)
  one_sided most bytes room at reads none = (
    subst IsSome (ap f at) (some_there (f path) refl (seen most (Some bytes) reads)),
    λ es kept.
        let there : f path ≡ Some kept.0 = ap f at ∙ kept.1 in
        let took : bytes ≡ take most kept.0 = same_Some bytes (take most kept.0) (seen most (Some bytes) reads ∙ ap (option_map (take most)) there) in
        let whole : bytes ≡ kept.0 = took ∙ take_all most kept.0 (omega (arith, room, kept.2.short)) in
        none es (subst (λ (b : List ℕ). IsIn Two b es) (sym whole) kept.2),
  )
    where
      some_there : (o : Option (List ℕ)) → f path ≡ o → Some bytes ≡ option_map (take most) o → IsSome (f path)
      some_there None at_none read = absurd (none-some bytes (sym read))
      some_there (Some all) at_some read = subst IsSome (sym at_some) refl

-- ---- the version

pub two_of : (n : ℕ) (bytes : List ℕ) (es : List PlainEntry) → IsJournal n bytes es → n ≡ 2 → IsIn Two bytes es
two_of n bytes es (One, number_is, is) two = absurd (omega (arith, number_is, two))
two_of n bytes es (Two, number_is, is) two = is

pub not_two : (n : ℕ) (bytes : List ℕ) (read : List PlainEntry) → ((m : ℕ) (es : List PlainEntry) → IsJournal m bytes es → (m ≡ n) × (es ≡ read)) → (n ≡ 2 → ⊥) → (es : List PlainEntry) → IsIn Two bytes es → ⊥
not_two n bytes read only other es is = other (sym (only 2 es (Two, refl, is)).0)

pub none_two : (bytes : List ℕ) → ((n : ℕ) (es : List PlainEntry) → IsJournal n bytes es → ⊥) → (es : List PlainEntry) → IsIn Two bytes es → ⊥
none_two bytes none es is = none 2 es (Two, refl, is)
