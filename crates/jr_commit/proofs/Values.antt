-- What the differences of two maps of files say of each path.
use Rattle.std.proofs.Common.{◌≡◌, ◌≢◌, ⊎_elim, List, [], ◌∷◌, ℕ, Bool, true, false, cond, map, filter, not, refl, sym, ◌∙◌, ap, subst, Some, None, ◌≤◌, ◌++◌, length, arith}
use Rattle.std.specs.Prelude.{Option, IsTrue, bytes_eq}
use Rattle.std.specs.List.{AllByRecursion}
use Rattle.std.specs.declared.cmp.Ordering.TheVariants.{Less, Equal, Greater}
use Rattle.std.proofs.lemmas.Map.Text.{is_eq-slice_cmp}
use Rattle.std.proofs.lemmas.Slice.Eq.{bytes_eq-Decides}
use Rattle.std.specs.FinMap as finite
use Rattle.std.specs.FinMap.Entries.{by_order, find}
use Rattle.jr_base.specs.Files.{FileMap}
use Rattle.std.proofs.lemmas.List.{length-append}
use Rattle.std.proofs.lemmas.Option.{same_Some}
use Rattle.jr_base.specs.Paths.{is_java}
use Rattle.jr_store.specs.Image.{Image, AreJava}
use Rattle.jr_store.specs.Replay.{image_of}
use Rattle.jr_store.specs.Sides.{IsNoneOf}
use Rattle.jr_commit.specs.SidesAt.{SideAt, with_sides}
use Rattle.jr_commit.specs.Journal.{spelling, magic, number, ending, entries_text, old_sides, new_sides, PutsBack}
use Rattle.jr_commit.specs.Restoring.{SameFiles}
use Rattle.jr_commit.specs.Reading.{journal_at}
use Rattle.jr_commit.specs.declared.entry.Version.{Version}
use Rattle.jr_commit.specs.declared.entry.Version.TheVariants.{Two}
use Rattle.jr_commit.proofs.Fields.{some_is}
use Rattle.jr_commit.proofs.Texts.{journal_again}
use Rattle.jr_commit.proofs.Exact.{entries_fit, found_again}
use Rattle.jr_commit.specs.Entries.{PlainEntry, names_of}
use Rattle.jr_commit.specs.Differences.{File, Pair, beside, pairs, same_side, entry_of, changes, differences, IsDifference}
use Rattle.jr_commit.proofs.Putting.{same_or_not, back}
use Rattle.jr_commit.proofs.Merging.{R, Below, Rises, keys_of, pair_paths, below_trans, tied, flipped, less_differs, all_beside, all_pairs, all_changes, changes_names, rises_of}
use Rattle.jr_commit.proofs.Planning.{changes_differ, changes_shaped, names_news, rise_differences}

find_here : (q : List ℕ) (f : File) (fs : List File) → q ≡ f.0 → find R q (f ∷ fs) ≡ Some f.1
find_here q f fs is = ap (λ b. cond b (Some f.1) (find R q fs)) (is_eq-slice_cmp q f.0 ∙ (bytes_eq-Decides q f.0).1 is)

find_past : (q : List ℕ) (f : File) (fs : List File) → q ≢ f.0 → find R q (f ∷ fs) ≡ find R q fs
find_past q f fs other = decided (bytes_eq q f.0) refl
  where
    decided : (b : Bool) → bytes_eq q f.0 ≡ b → find R q (f ∷ fs) ≡ find R q fs
    decided true is = absurd (other ((bytes_eq-Decides q f.0).0 is))
    decided false is = ap (λ b. cond b (Some f.1) (find R q fs)) (is_eq-slice_cmp q f.0 ∙ is)

find_none : (q : List ℕ) (fs : List File) → AllByRecursion (λ k. q ≢ k) (keys_of fs) → find R q fs ≡ None
find_none q [] off = refl
find_none q (f ∷ fs) off = find_past q f fs off.0 ∙ find_none q fs off.1

below_off : (x : List ℕ) (ks : List (List ℕ)) → Below x ks → AllByRecursion (λ k. x ≢ k) ks
below_off x [] below = tt
below_off x (k ∷ ks) below = (less_differs x k below.0, below_off x ks below.1)

-- ---- each pair has what stands at its path in each list

abbrev At : List File → List File → Pair → Type 0
At olds news p = (p.1 ≡ find R p.0 olds) × (p.2 ≡ find R p.0 news)

later : (olds news more_olds more_news : List File) (x : List ℕ) (ps : List Pair) → ((q : List ℕ) → q ≢ x → (find R q more_olds ≡ find R q olds) × (find R q more_news ≡ find R q news))
    → Below x (pair_paths ps) → AllByRecursion (At olds news) ps → AllByRecursion (At more_olds more_news) ps
later olds news more_olds more_news x [] same below at = tt
later olds news more_olds more_news x (p ∷ ps) same below at =
    let here = same p.0 (λ is. less_differs x p.0 below.0 (sym is)) in
    ((at.0.0 ∙ sym here.0, at.0.1 ∙ sym here.1), later olds news more_olds more_news x ps same below.1 at.1)

at_news : (news : List File) → Rises (keys_of news) → AllByRecursion (At [] news) (pairs [] news)
at_news [] rising = tt
at_news (n ∷ news) rising = ((refl, sym (find_here n.0 n news refl)), later [] news [] (n ∷ news) n.0 (pairs [] news) (λ q other. (refl, find_past q n news other)) (all_pairs (λ p. R n.0 p ≡ Less) [] news tt rising.0) (at_news news rising.1))

at_beside : (o : File) (olds : List File) → Below o.0 (keys_of olds) → ((ns : List File) → Rises (keys_of ns) → AllByRecursion (At olds ns) (pairs olds ns))
    → (news : List File) → Rises (keys_of news) → AllByRecursion (At (o ∷ olds) news) (beside o (pairs olds) news)
at_beside o olds below others [] rising =
    ((sym (find_here o.0 o olds refl), refl), later olds [] (o ∷ olds) [] o.0 (pairs olds []) (λ q other. (find_past q o olds other, refl)) (all_pairs (λ p. R o.0 p ≡ Less) olds [] below tt) (others [] tt))
at_beside o olds below others (n ∷ news) rising =
    elim (R o.0 n.0) as (λ r. R o.0 n.0 ≡ r → AllByRecursion (At (o ∷ olds) (n ∷ news)) (by_order r ((o.0, Some o.1, None) ∷ pairs olds (n ∷ news)) ((o.0, Some o.1, Some n.1) ∷ pairs olds news) ((n.0, None, Some n.1) ∷ beside o (pairs olds) news))) [
      | Less ↦ λ less.
          let above : Below o.0 (keys_of (n ∷ news)) = (less, below_trans o.0 n.0 (keys_of news) less rising.0) in (
            (sym (find_here o.0 o olds refl), sym (find_none o.0 (n ∷ news) (below_off o.0 (keys_of (n ∷ news)) above))),
            later olds (n ∷ news) (o ∷ olds) (n ∷ news) o.0 (pairs olds (n ∷ news)) (λ q other. (find_past q o olds other, refl)) (all_pairs (λ p. R o.0 p ≡ Less) olds (n ∷ news) below above) (others (n ∷ news) rising),
          )
      | Equal ↦ λ same.
          let one : o.0 ≡ n.0 = tied o.0 n.0 same in
          let above : Below o.0 (keys_of news) = subst (λ x. Below x (keys_of news)) (sym one) rising.0 in (
            (sym (find_here o.0 o olds refl), sym (find_here o.0 n news one)),
            later olds news (o ∷ olds) (n ∷ news) o.0 (pairs olds news) (λ q other. (find_past q o olds other, find_past q n news (λ is. other (is ∙ sym one)))) (all_pairs (λ p. R o.0 p ≡ Less) olds news below above) (others news rising.1),
          )
      | Greater ↦ λ greater.
          let less : R n.0 o.0 ≡ Less = flipped o.0 n.0 greater in
          let above : Below n.0 (keys_of (o ∷ olds)) = (less, below_trans n.0 o.0 (keys_of olds) less below) in (
            (sym (find_none n.0 (o ∷ olds) (below_off n.0 (keys_of (o ∷ olds)) above)), sym (find_here n.0 n news refl)),
            later (o ∷ olds) news (o ∷ olds) (n ∷ news) n.0 (beside o (pairs olds) news) (λ q other. (refl, find_past q n news other))
                (all_beside (λ p. R n.0 p ≡ Less) o (pairs olds) less (λ ns all. all_pairs (λ p. R n.0 p ≡ Less) olds ns above.1 all) news rising.0) (at_beside o olds below others news rising.1),
          )
    ] refl

at_pairs : (olds news : List File) → Rises (keys_of olds) → Rises (keys_of news) → AllByRecursion (At olds news) (pairs olds news)
at_pairs [] news rising_olds rising = at_news news rising
at_pairs (o ∷ olds) news rising_olds rising = at_beside o olds rising_olds.0 (λ ns r. at_pairs olds ns rising_olds.1 r) news rising

-- ---- each file has a pair

module _ (P : List ℕ → Type 0) where
  from_news : (news : List File) → AllByRecursion P (pair_paths (pairs [] news)) → AllByRecursion P (keys_of news)
  from_news [] all = tt
  from_news (n ∷ news) all = (all.0, from_news news all.1)

  from_beside : (o : File) (olds : List File) → ((ns : List File) → AllByRecursion P (pair_paths (pairs olds ns)) → AllByRecursion P (keys_of olds) × AllByRecursion P (keys_of ns))
      → (news : List File) → AllByRecursion P (pair_paths (beside o (pairs olds) news)) → AllByRecursion P (keys_of (o ∷ olds)) × AllByRecursion P (keys_of news)
  from_beside o olds others [] all = ((all.0, (others [] all.1).0), tt)
  from_beside o olds others (n ∷ news) every =
      (elim (R o.0 n.0) as (λ r. R o.0 n.0 ≡ r → AllByRecursion P (pair_paths (by_order r ((o.0, Some o.1, None) ∷ pairs olds (n ∷ news)) ((o.0, Some o.1, Some n.1) ∷ pairs olds news) ((n.0, None, Some n.1) ∷ beside o (pairs olds) news))) → AllByRecursion P (keys_of (o ∷ olds)) × AllByRecursion P (keys_of (n ∷ news))) [
        | Less ↦ λ less all. let rest = others (n ∷ news) all.1 in ((all.0, rest.0), rest.1)
        | Equal ↦ λ same all. let rest = others news all.1 in ((all.0, rest.0), (subst P (tied o.0 n.0 same) all.0, rest.1))
        | Greater ↦ λ greater all. let rest = from_beside o olds others news all.1 in (rest.0, (all.0, rest.1))
      ] refl) every

  from_pairs : (olds news : List File) → AllByRecursion P (pair_paths (pairs olds news)) → AllByRecursion P (keys_of olds) × AllByRecursion P (keys_of news)
  from_pairs [] news all = (tt, from_news news all)
  from_pairs (o ∷ olds) news all = from_beside o olds (λ ns rest. from_pairs olds ns rest) news all

-- ---- the differences

same_sides : (a b : Option (List ℕ)) → same_side a b ≡ true → a ≡ b
same_sides None None same = refl
same_sides None (Some b) same = absurd cc
same_sides (Some a) None same = absurd cc
same_sides (Some a) (Some b) same = ap Some ((bytes_eq-Decides a b).0 same)

unchanged : (q : List ℕ) (olds news : List File) (ps : List Pair) → AllByRecursion (At olds news) ps → (AllByRecursion (λ k. q ≢ k) (pair_paths ps) → find R q olds ≡ find R q news)
    → IsNoneOf (names_of (changes ps)) q → find R q olds ≡ find R q news
unchanged q olds news [] at base off = base tt
unchanged q olds news (p ∷ ps) at base none =
    (elim (same_side p.1 p.2) as (λ b. same_side p.1 p.2 ≡ b → IsNoneOf (names_of (map entry_of (cond (not b) (p ∷ filter (λ r. not (same_side r.1 r.2)) ps) (filter (λ r. not (same_side r.1 r.2)) ps)))) q → find R q olds ≡ find R q news) [
      | true ↦ λ same off. ⊎_elim
          (λ is. ap (λ x. find R x olds) is ∙ sym at.0.0 ∙ same_sides p.1 p.2 same ∙ at.0.1 ∙ ap (λ x. find R x news) (sym is))
          (λ other. unchanged q olds news ps at.1 (λ rest. base (other, rest)) off) (same_or_not q p.0)
      | false ↦ λ differ off. unchanged q olds news ps at.1 (λ rest. base (off.0, rest)) off.1
    ] refl) none

sides_of_pairs : (olds news : List File) (ps : List Pair) → AllByRecursion (At olds news) ps → AllByRecursion (λ e. (e.1 ≡ Some (find R e.0 olds)) × (e.2 ≡ Some (find R e.0 news)) × (e.1 ≢ e.2)) (changes ps)
sides_of_pairs olds news ps at =
    joined (changes ps) (all_changes (λ e. (e.1 ≡ Some (find R e.0 olds)) × (e.2 ≡ Some (find R e.0 news))) ps (given ps at)) (changes_differ ps)
  where
    given : (qs : List Pair) → AllByRecursion (At olds news) qs → AllByRecursion (λ p. (same_side p.1 p.2 ≡ false) → (Some p.1 ≡ Some (find R p.0 olds)) × (Some p.2 ≡ Some (find R p.0 news))) qs
    given [] all = tt
    given (q ∷ qs) all = (λ _. (ap Some all.0.0, ap Some all.0.1), given qs all.1)

    joined : (es : List PlainEntry) → AllByRecursion (λ e. (e.1 ≡ Some (find R e.0 olds)) × (e.2 ≡ Some (find R e.0 news))) es → AllByRecursion (λ e. e.1 ≢ e.2) es → AllByRecursion (λ e. (e.1 ≡ Some (find R e.0 olds)) × (e.2 ≡ Some (find R e.0 news)) × (e.1 ≢ e.2)) es
    joined [] a b = tt
    joined (e ∷ es) a b = ((a.0.0, a.0.1, b.0), joined es a.1 b.1)

found_in : (old new : FileMap) (es : List PlainEntry) → AllByRecursion (λ e. (e.1 ≡ Some (find R e.0 (finite.entries old))) × (e.2 ≡ Some (find R e.0 (finite.entries new))) × (e.1 ≢ e.2)) es
    → AllByRecursion (λ e. (e.1 ≡ Some (finite.get old e.0)) × (e.2 ≡ Some (finite.get new e.0)) × (e.1 ≢ e.2)) es
found_in old new [] all = tt
found_in old new (e ∷ es) all = ((all.0.0 ∙ ap Some (sym (finite.get-entries old e.0)), all.0.1 ∙ ap Some (sym (finite.get-entries new e.0)), all.0.2), found_in old new es all.1)

pub is_difference : (old new : FileMap) → IsDifference old new (differences old new)
is_difference old new =
    let olds = finite.entries old in
    let news = finite.entries new in
    let at = at_pairs olds news (rises_of olds (finite.entries_sorted old)) (rises_of news (finite.entries_sorted new)) in
    record {
      rising = rise_differences old new;
      sides = found_in old new (differences old new) (sides_of_pairs olds news (pairs olds news) at);
      others = λ q off. finite.get-entries old q
          ∙ unchanged q olds news (pairs olds news) at (λ all. let both = from_pairs (λ k. q ≢ k) olds news all in find_none q olds both.0 ∙ sym (find_none q news both.1)) off
          ∙ sym (finite.get-entries new q);
    }

-- ---- what the plan makes of the old files

news_at : (g : Image) (new : FileMap) (es : List PlainEntry) → ((q : List ℕ) → g q ≡ finite.get new q) → AllByRecursion (λ e. e.2 ≡ Some (finite.get new e.0)) es → AllByRecursion (λ e. g e.0 ≡ e.1) (new_sides es)
news_at g new [] same at = tt
news_at g new ((path, old, None) ∷ es) same at = news_at g new es same at.1
news_at g new ((path, old, Some side) ∷ es) same at = (same path ∙ sym (same_Some side (finite.get new path) at.0), news_at g new es same at.1)

olds_at : (f : Image) (old : FileMap) (es : List PlainEntry) → SameFiles f (image_of old) → AllByRecursion (λ p. IsTrue (is_java p)) (names_of es) → AllByRecursion (λ e. e.1 ≡ Some (finite.get old e.0)) es → AllByRecursion (λ e. f e.0 ≡ e.1) (old_sides es)
olds_at f old [] same java at = tt
olds_at f old ((path, None, new) ∷ es) same java at = olds_at f old es same java.1 at.1
olds_at f old ((path, Some side, new) ∷ es) same java at = (same path java.0 ∙ sym (same_Some side (finite.get old path) at.0), olds_at f old es same java.1 at.1)

pub first_sides : (old new : FileMap) (es : List PlainEntry) → AllByRecursion (λ e. (e.1 ≡ Some (finite.get old e.0)) × (e.2 ≡ Some (finite.get new e.0)) × (e.1 ≢ e.2)) es → AllByRecursion (λ e. e.1 ≡ Some (finite.get old e.0)) es
first_sides old new [] all = tt
first_sides old new (e ∷ es) all = (all.0.0, first_sides old new es all.1)

pub second_sides : (old new : FileMap) (es : List PlainEntry) → AllByRecursion (λ e. (e.1 ≡ Some (finite.get old e.0)) × (e.2 ≡ Some (finite.get new e.0)) × (e.1 ≢ e.2)) es → AllByRecursion (λ e. e.2 ≡ Some (finite.get new e.0)) es
second_sides old new [] all = tt
second_sides old new (e ∷ es) all = (all.0.1, second_sides old new es all.1)

-- the steps make the new files of the old ones
pub gives_new : (old new : FileMap) (steps : List SideAt) → steps ≡ new_sides (differences old new) → (f : Image) → SameFiles f (image_of old) → SameFiles (with_sides steps f) (image_of new)
gives_new old new steps is f same q java =
    let diff = is_difference old new in
    let es = differences old new in
    ap (λ (l : List SideAt). with_sides l f q) is
    ∙ back (new_sides es) f (image_of new) q (news_at (image_of new) new es (λ _. refl) (second_sides old new es diff.sides))
    (λ off. same q java ∙ diff.others q (subst (λ ps. IsNoneOf ps q) (names_news (pairs (finite.entries old) (finite.entries new))) off))

pub read_again : (ps : List Pair) → length (spelling Two (changes ps)) ≤ 50331648 → journal_at (spelling Two (changes ps)) ≡ Some (Two, changes ps)
read_again ps short =
    let es = changes ps in
    let a = length-append (magic Two) (number (length es) ++ (entries_text Two es ++ ending)) in
    let b = length-append (number (length es)) (entries_text Two es ++ ending) in
    let c = length-append (entries_text Two es) ending in
    let fits = entries_fit Two es (changes_shaped ps) (omega (arith, a, b, c)) in
    journal_again Two es (changes_shaped ps) fits.0 (omega (arith, a, b, c, fits.1))

-- the old files hold the journal's old sides
pub holds_olds : (old new : FileMap) (journal : List ℕ) → AreJava (finite.keys old) → AreJava (finite.keys new) → length (spelling Two (differences old new)) ≤ 50331648 → journal ≡ spelling Two (differences old new)
    → (f : Image) → SameFiles f (image_of old) → (olds : List SideAt) → PutsBack journal olds → AllByRecursion (λ e. f e.0 ≡ e.1) olds
holds_olds old new journal java_old java_new short is f same olds puts =
    let ps = pairs (finite.entries old) (finite.entries new) in
    let made : Version × List PlainEntry = (puts.version, puts.entries) in
    let read : Version × List PlainEntry = (Two, changes ps) in
    let one : made ≡ read = some_is made read (sym (found_again puts.version journal puts.entries puts.journal) ∙ ap journal_at is ∙ read_again ps short) in
    let entries : puts.entries ≡ changes ps = ap (λ (x : Version × List PlainEntry). x.1) one in
    let diff = is_difference old new in
    let java = changes_names (λ p. IsTrue (is_java p)) ps (all_pairs (λ p. IsTrue (is_java p)) (finite.entries old) (finite.entries new) java_old java_new) in
    subst (λ (l : List SideAt). AllByRecursion (λ e. f e.0 ≡ e.1) l) (sym (puts.sides ∙ ap old_sides entries)) (olds_at f old (differences old new) same java (first_sides old new (differences old new) diff.sides))
