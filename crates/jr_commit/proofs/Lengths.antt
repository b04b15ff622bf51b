-- The journal of files within the limits is short enough for a plan.
use Rattle.std.proofs.Common.{◌≡◌, ℕ, ◌+◌, ◌*◌, ◌≤◌, List, [], ◌∷◌, ◌++◌, length, Option, Some, None, true, false, cond, map, filter, not, refl, sym, ap, subst, ◌∙◌, arith, lit≤}
use Rattle.std.specs.List.{AllByRecursion}
use Rattle.std.specs.Ordering.{nat_cmp}
use Rattle.std.specs.FinMap as finite
use Rattle.std.specs.FinMap.Entries.{by_order, put}
use Rattle.std.specs.Cmp.Lexicographic.{slice_cmp, nat_list_cmp_total}
use Rattle.std.specs.declared.cmp.Ordering.TheVariants.{Less, Equal, Greater}
use Rattle.std.proofs.Math.Nat.{mul-zero, mul-suc, mul-le-mul_left}
use Rattle.std.proofs.lemmas.List.{length-append}
use Rattle.std.proofs.lemmas.List.Sums.{sum_by-cons}
use Rattle.jr_base.specs.Files.{FileMap}
use Rattle.jr_commit.specs.Entries.{PlainEntry}
use Rattle.jr_commit.specs.declared.entry.Version.TheVariants.{Two}
use Rattle.jr_commit.specs.Journal.{number, string, side_text, entry_text, entries_text, magic, ending, spelling}
use Rattle.jr_commit.specs.Differences.{File, Pair, beside, pairs, same_side, entry_of, changes, differences}
use Rattle.jr_commit.specs.Sizes.{content_bytes, IsWithin, IsWithinLimits, JournalFits, IsSmallFile}
use Rattle.jr_commit.proofs.Texts.{entries_cons}
use Rattle.jr_commit.proofs.Merging.{R, pair_paths, all_pairs}

-- ---- the text of one entry

string_size : (bytes : List ℕ) → length (string bytes) ≡ 4 + length bytes
string_size bytes = omega (arith, length-append (number (length bytes)) bytes)

abbrev side_bytes : Option (List ℕ) → ℕ
side_bytes None = 0
side_bytes (Some bytes) = length bytes

side_size : (side : Option (List ℕ)) → length (side_text (Some side)) ≤ 5 + side_bytes side
side_size None = omega arith
side_size (Some bytes) = omega (arith, string_size bytes)

-- k bytes for the path and what stands around the contents, and both contents
abbrev weight : ℕ → Pair → ℕ
weight k p = k + (side_bytes p.1 + side_bytes p.2)

entry_size : (k : ℕ) (p : Pair) → 14 + length p.0 ≤ k → length (entry_text Two (entry_of p)) ≤ weight k p
entry_size k p le =
    let a = length-append (string p.0) (side_text (Some p.1) ++ side_text (Some p.2)) in
    let b = length-append (side_text (Some p.1)) (side_text (Some p.2)) in
    omega (arith, a, b, string_size p.0, side_size p.1, side_size p.2)

-- ---- the text of the changes

abbrev total : ℕ → List Pair → ℕ
total k [] = 0
total k (p ∷ ps) = weight k p + total k ps

one_more : (e : PlainEntry) (es : List PlainEntry) (w t : ℕ) → length (entry_text Two e) ≤ w → length (entries_text Two es) ≤ t → length (entries_text Two (e ∷ es)) ≤ w + t
one_more e es w t here rest =
    let long = ap length (entries_cons Two e es) ∙ length-append (entry_text Two e) (entries_text Two es) in
    omega (arith, long)

none_more : (n w t : ℕ) → n ≤ t → n ≤ w + t
none_more n w t le = omega arith

changes_size : (k : ℕ) (ps : List Pair) → AllByRecursion (λ p. 14 + length p ≤ k) (pair_paths ps) → length (entries_text Two (changes ps)) ≤ total k ps
changes_size k [] all = omega arith
changes_size k (p ∷ ps) all =
    elim (same_side p.1 p.2) as (λ b. length (entries_text Two (map entry_of (cond (not b) (p ∷ filter (λ q. not (same_side q.1 q.2)) ps) (filter (λ q. not (same_side q.1 q.2)) ps)))) ≤ weight k p + total k ps) [
      | true ↦ none_more (length (entries_text Two (changes ps))) (weight k p) (total k ps) (changes_size k ps all.1)
      | false ↦ one_more (entry_of p) (changes ps) (weight k p) (total k ps) (entry_size k p all.0) (changes_size k ps all.1)
    ]

-- ---- the pairs of two lists of files

abbrev weigh : ℕ → List File → ℕ
weigh k [] = 0
weigh k (f ∷ fs) = (k + length f.1) + weigh k fs

total_news : (k : ℕ) (news : List File) → total k (pairs [] news) ≤ weigh k news
total_news k [] = omega arith
total_news k (n ∷ news) = omega (arith, total_news k news)

only_old : (k a w n t : ℕ) → t ≤ w + n → (k + (a + 0)) + t ≤ ((k + a) + w) + n
only_old k a w n t le = omega arith

both_sides : (k a b w n t : ℕ) → t ≤ w + n → (k + (a + b)) + t ≤ ((k + a) + w) + ((k + b) + n)
both_sides k a b w n t le = omega arith

only_new : (k b w n t : ℕ) → t ≤ w + n → (k + (0 + b)) + t ≤ w + ((k + b) + n)
only_new k b w n t le = omega arith

total_beside : (k w : ℕ) (o : File) (rest : List File → List Pair) → ((ns : List File) → total k (rest ns) ≤ w + weigh k ns)
    → (news : List File) → total k (beside o rest news) ≤ ((k + length o.1) + w) + weigh k news
total_beside k w o rest others [] = only_old k (length o.1) w 0 (total k (rest [])) (others [])
total_beside k w o rest others (n ∷ news) =
    elim (R o.0 n.0) as (λ r. total k (by_order r ((o.0, Some o.1, None) ∷ rest (n ∷ news)) ((o.0, Some o.1, Some n.1) ∷ rest news) ((n.0, None, Some n.1) ∷ beside o rest news)) ≤ ((k + length o.1) + w) + weigh k (n ∷ news)) [
      | Less ↦ only_old k (length o.1) w (weigh k (n ∷ news)) (total k (rest (n ∷ news))) (others (n ∷ news))
      | Equal ↦ both_sides k (length o.1) (length n.1) w (weigh k news) (total k (rest news)) (others news)
      | Greater ↦ only_new k (length n.1) ((k + length o.1) + w) (weigh k news) (total k (beside o rest news)) (total_beside k w o rest others news)
    ]

total_pairs : (k : ℕ) (olds news : List File) → total k (pairs olds news) ≤ weigh k olds + weigh k news
total_pairs k [] news = omega (arith, total_news k news)
total_pairs k (o ∷ olds) news = total_beside k (weigh k olds) o (pairs olds) (λ ns. total_pairs k olds ns) news

-- ---- the limits

weigh_is : (k : ℕ) (files : List File) → weigh k files ≡ k * length files + content_bytes files
weigh_is k [] = omega (arith, mul-zero k)
weigh_is k (f ∷ fs) = omega (arith, weigh_is k fs, mul-suc k (length fs), sum_by-cons (λ (g : File). length g.1) f fs)

weigh_most : (k most largest : ℕ) (files : List File) → length files ≤ most → content_bytes files ≤ largest → weigh k files ≤ k * most + largest
weigh_most k most largest files few small = omega (arith, weigh_is k files, mul-le-mul_left k few)

pub spelling_size : (es : List PlainEntry) → length (spelling Two es) ≡ 13 + length (entries_text Two es)
spelling_size es =
    let a = length-append (magic Two) (number (length es) ++ (entries_text Two es ++ ending)) in
    let b = length-append (number (length es)) (entries_text Two es ++ ending) in
    let c = length-append (entries_text Two es) ending in
    omega (arith, a, b, c)

raised : (longest : ℕ) (paths : List (List ℕ)) → AllByRecursion (λ p. length p ≤ longest) paths → AllByRecursion (λ p. 14 + length p ≤ 14 + longest) paths
raised longest [] all = tt
raised longest (p ∷ paths) all = (raised_one (length p) longest all.0, raised longest paths all.1)
  where
    raised_one : (n m : ℕ) → n ≤ m → 14 + n ≤ 14 + m
    raised_one n m le = omega arith

joined : (text all old new a b most : ℕ) → text ≤ all → all ≤ old + new → old ≤ a → new ≤ b → 13 + (a + b) ≤ most → 13 + text ≤ most
joined text all old new a b most h1 h2 h3 h4 h5 = omega arith

fits_within : (most longest largest bytes : ℕ) (old new : FileMap) → IsWithin most longest largest old → IsWithin most longest largest new
    → 13 + (((14 + longest) * most + largest) + ((14 + longest) * most + largest)) ≤ bytes → length (spelling Two (differences old new)) ≤ bytes
fits_within most longest largest bytes old new before after enough =
    let k = 14 + longest in
    let olds = finite.entries old in
    let news = finite.entries new in
    let paths = all_pairs (λ p. 14 + length p ≤ k) olds news (raised longest (finite.keys old) before.paths) (raised longest (finite.keys new) after.paths) in
    let few = joined (length (entries_text Two (differences old new))) (total k (pairs olds news)) (weigh k olds) (weigh k news) (k * most + largest) (k * most + largest) bytes
    (changes_size k (pairs olds news) paths) (total_pairs k olds news) (weigh_most k most largest olds before.count before.contents) (weigh_most k most largest news after.count after.contents) enough in
    subst (λ n. n ≤ bytes) (sym (spelling_size (differences old new))) few

pub journal_fits : (old new : FileMap) → IsWithinLimits old → IsWithinLimits new → JournalFits old new
journal_fits old new before after = fits_within 4096 1024 16777216 50331648 old new before after (lit≤ tt)

-- ---- one file

one_within : (most longest largest : ℕ) (files : FileMap) (path bytes : List ℕ) → finite.entries files ≡ (path, bytes) ∷ [] → 1 ≤ most → length path ≤ longest → length bytes ≤ largest → IsWithin most longest largest files
one_within most longest largest files path bytes is some short small = record {
  count = subst (λ (fs : List File). length fs ≤ most) (sym is) some;
  paths = subst (λ (fs : List File). AllByRecursion (λ p. length p ≤ longest) (map (λ f. f.0) fs)) (sym is) (short, tt);
  contents = subst (λ (fs : List File). content_bytes fs ≤ largest) (sym is) (omega arith);
}

pub one_file : (files : FileMap) → IsSmallFile files → IsWithinLimits files
one_file files is = one_within 4096 1024 16777216 files is.path is.bytes is.file (lit≤ tt) is.short is.small

none_of : (files : List File) → length files ≡ 0 → files ≡ []
none_of [] none = refl
none_of (f ∷ fs) none = absurd (omega arith)

-- a file put into no files is one file
pub inserted_file : (path bytes : List ℕ) → length path ≤ 1024 → length bytes ≤ 16777216 → IsSmallFile (finite.insert finite.empty path bytes)
inserted_file path bytes short small =
    let none : finite.entries {R = slice_cmp nat_cmp} finite.empty ≡ [] = none_of (finite.entries finite.empty) (sym (finite.len-entries finite.empty) ∙ finite.len-empty (slice_cmp nat_cmp) (List ℕ)) in
    record { path = path; bytes = bytes; file = finite.entries-insert nat_list_cmp_total finite.empty path bytes ∙ ap (put (slice_cmp nat_cmp) path bytes) none; short = short; small = small }
