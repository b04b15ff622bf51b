-- From one answer to a rename to one answer of the call.
use denote.RawPtr.{null_ptr}
use Rattle.std.proofs.Common.{◌≡◌, ◌≢◌, ◌⊎◌, inl, inr, ℕ, zero, suc, ◌<◌, ◌≤◌, List, length, Bool, true, false, Option, Some, None, IsSome, refl, sym, ap, subst, ◌∙◌, arith, Vec, Global, lit≤}
use Rattle.std.specs.Prelude.{bytes_eq, nat_lt, if◌then◌else◌}
use Rattle.std.proofs.Math.Nat.{le_refl, lt_of_le_of_lt}
use Rattle.std.proofs.lemmas.Bool.{false≢true, le-ltb, lt-ltb}
use Rattle.std.proofs.lemmas.Option.{same_Some, none-some}
use Rattle.std.proofs.lemmas.Slice.Eq.{bytes_eq-Decides}
use Rattle.jr_base.specs.declared.limits.Size.TheVariants.{File, Path}
use Rattle.jr_base.specs.declared.request.Request.TheVariants.{Rename}
use Rattle.jr_commit.specs.Restoring.{Restored, SameFiles}
use Rattle.jr_request.specs.Words.{command_of}
use Rattle.jr_request.specs.declared.command.Command.TheVariants.{One}
use Rattle.jr_rule.specs.declared.Rule.TheVariants.{LocalNames}
use Rattle.jr_store.specs.Image.{Image, Tells}
use Rattle.jr_thin.proofs.Exclusion.{one_answer}
use Rattle.jr_thin.specs.Laws.{IsSame}
use Rattle.jr_thin.specs.Renaming.{IsLost, IsBroken, IsDone, IsRenaming}
use Rattle.jr_thin.specs.declared.answers.Renaming.{Renaming}
use Rattle.jr_thin.specs.declared.answers.Renaming.TheVariants as renaming
use Rattle.jr_top.specs.Answers.{Asks, Answers, IsDemonstrated, IsFailure}
use Rattle.jr_top.specs.Changing.{IsCommitted, IsTooLong}
use Rattle.jr_top.specs.Crash.{Survives}
use Rattle.jr_top.specs.Exact.{place_of, renamed_answer, answer_of, answer_at, bytes_after, KeepsOtherFiles, IsAnswered}
use Rattle.jr_top.specs.Performing.{Reported}
use Rattle.jr_top.specs.Recovering.{AsksRecovery, Recovers}
use Rattle.jr_top.specs.Renaming.{AsksRename, Holds, ForTold}
use Rattle.jr_top.proofs.Outcomes.{found_files, no_bad_journal}
use Rattle.jr_top.proofs.Settled.{holds_same}
use Rattle.jr_top.specs.declared.status.Phase.TheVariants.{Recovering, Reading, Writing}
use Rattle.jr_top.specs.declared.status.Report.TheVariants.{Changed, Printed}
use Rattle.jr_top.specs.declared.status.Status.{Status}
use Rattle.jr_top.specs.declared.status.Status.TheVariants.{Done, BadWords, NoSpelling, BrokenRule, StoreFault, TooLarge, OutOfMemory, BadJournal, Differs}

-- a vector that holds a list of this length
abbrev held_in : Global → (xs : List ℕ) → length xs ≤ 1048576 → Vec ℕ Global
held_in alloc xs fits =
    record { ptr = null_ptr; len = length xs; cap = length xs; alloc = alloc; items = xs; ok = (refl, le_refl (length xs)); small = lt_of_le_of_lt fits (lit≤ tt) }

-- answers that say the same are one
same_answer : (bytes : List ℕ) (r s : Renaming) → IsSame r s → answer_of bytes r ≡ answer_of bytes s
same_answer bytes renaming.NotServed renaming.NotServed same = refl
same_answer bytes (renaming.NoSpelling occ at lock) (renaming.NoSpelling occ2 at2 lock2) same =
    ap (λ o. Some (NoSpelling 0 o (place_of at) lock)) same.0 ∙ ap (λ a. Some (NoSpelling 0 occ2 (place_of a) lock)) same.1 ∙ ap (λ l. Some (NoSpelling 0 occ2 (place_of at2) l)) same.2
same_answer bytes (renaming.BrokenRule at) (renaming.BrokenRule at2) same = ap (λ a. Some (BrokenRule 0 LocalNames (place_of a))) same
same_answer bytes (renaming.Renamed new) (renaming.Renamed new2) same = ap (λ items. Some (renamed_answer bytes items)) same
same_answer bytes r s never = absurd never

-- the new bytes are left where the rename is done
same_bytes : (bytes : List ℕ) (n : ℕ) (r : Renaming) (new : Vec ℕ Global) → IsSame r (renaming.Renamed new) → bytes_after bytes (Done (Changed n)) r ≡ new.items
same_bytes bytes n (renaming.Renamed new) new2 same = same
same_bytes bytes n r new never = absurd never

differ : (xs ys : List ℕ) → xs ≢ ys → bytes_eq xs ys ≡ false
differ xs ys other = decided (bytes_eq xs ys) refl
  where
    decided : (b : Bool) → bytes_eq xs ys ≡ b → bytes_eq xs ys ≡ false
    decided true is = absurd (other ((bytes_eq-Decides xs ys).0 is))
    decided false is = is

-- when each answer comes to bytes that are as new
module _ (bytes new : List ℕ) where
  abbrev renamed : Bool → Bool → Status
  renamed same long = if same then Done (Changed 0) else (if long then TooLarge File 0 else Done (Changed 1))

  unchanged : new ≡ bytes → renamed (bytes_eq new bytes) (nat_lt 1048576 (length new)) ≡ Done (Changed 0)
  unchanged same = ap (λ b. renamed b (nat_lt 1048576 (length new))) ((bytes_eq-Decides new bytes).1 same)

  changed : new ≢ bytes → length new ≤ 1048576 → renamed (bytes_eq new bytes) (nat_lt 1048576 (length new)) ≡ Done (Changed 1)
  changed other fits = ap (λ b. renamed b (nat_lt 1048576 (length new))) (differ new bytes other) ∙ ap (renamed false) (le-ltb 1048576 (length new) fits)

  long : length bytes ≤ 1048576 → 1048576 < length new → renamed (bytes_eq new bytes) (nat_lt 1048576 (length new)) ≡ TooLarge File 0
  long small large =
      ap (λ b. renamed b (nat_lt 1048576 (length new))) (differ new bytes (λ same. absurd (omega (arith, ap length same))))
      ∙ ap (renamed false) (lt-ltb 1048576 (length new) large)

-- words are read as one rename
one_asked : (words : List (List ℕ)) (f g : List ℕ) (i j : ℕ) (m n : List ℕ) → AsksRename words f i m → AsksRename words g j n → (f ≡ g) × (i ≡ j) × (m ≡ n)
one_asked words f g i j m n a b =
    let e : One (Rename f i m) ≡ One (Rename g j n) = same_Some _ _ (sym a ∙ b) in
    (cc, cc, cc)

none_read : (words : List (List ℕ)) → command_of words ≡ None → AsksRecovery words → ⊥
none_read words none (command, is, needs) = none-some command (sym none ∙ is)

none_there : (words : List (List ℕ)) → command_of words ≡ None → IsSome (command_of words) → ⊥
none_there words none some = false≢true (subst IsSome none some)

module _ (words : List (List ℕ)) (told left : Option Image) (kept outcomes : Image → Type 0) (before after : ℕ) (old new : Option (List ℕ)) (fewer more : ℕ) where
  abbrev Said : Status → Type 0
  Said status = Answers words told left outcomes before after status × Survives words told kept outcomes status

  -- this, or what may come in its place
  abbrev Or : (Status → Type 0) → Status → Type 0
  Or P status = P status ⊎ IsFailure before after fewer more status

  -- what is so of each status that is reported is so of the answer
  answered : (P : Status → Type 0) → ((status : Status) → Answers words told left outcomes before after status → Or P status) → (result : Status) → Reported words Said result old new fewer more → Or P result
  answered P each result (status, said, inl done) = subst (Or P) (sym done.0) (each status said.0)
  answered P each result (status, said, inr failed) = subst (Or P) (sym failed.0) (inr failed.2)

  pub bad_words : (result : Status) → Reported words Said result old new fewer more → command_of words ≡ None → (result ≡ BadWords) ⊎ IsFailure before after fewer more result
  bad_words result reported none = answered (λ status. status ≡ BadWords) each result reported
    where
      each : (status : Status) → Answers words told left outcomes before after status → (status ≡ BadWords) ⊎ IsFailure before after fewer more status
      each BadWords a = inl refl
      each BadJournal a = absurd (none_read words none a.1)
      each (StoreFault Recovering) a = absurd (none_read words none a.1)
      each OutOfMemory a = inr tt
      each (Done (Printed text)) a = absurd (none_there words none a.1)
      each (Differs request place) a = absurd (none_there words none a.1)
      each other a = absurd (none_read words none a.1)

  -- an image that stands for no files
  pub unreadable : (result : Status) → Reported words Said result old new fewer more → (files : Image) → told ≡ Some files → ((restored : Image) → Restored files restored → ⊥) → AsksRecovery words →
      (result ≡ BadJournal) ⊎ IsFailure before after fewer more result
  unreadable result reported files is none asks = answered (λ status. status ≡ BadJournal) each result reported
    where
      never : (t here : Option Image) → t ≡ Some files → Recovers t here → ⊥
      never None here t_is recovers = none-some files t_is
      never (Some f) None t_is recovers = recovers
      never (Some f) (Some g) t_is recovers = none recovers.stood.0 (subst (λ (i : Image). Restored i recovers.stood.0) (same_Some f files t_is) recovers.stood.1)

      each : (status : Status) → Answers words told left outcomes before after status → (status ≡ BadJournal) ⊎ IsFailure before after fewer more status
      each BadWords a = absurd (none_read words a.1 asks)
      each BadJournal a = inl refl
      each (StoreFault Recovering) a = inr a.2
      each OutOfMemory a = inr tt
      each (Done (Printed text)) a = absurd (a.2 asks)
      each (Differs request place) a = absurd (a.2 asks)
      each other a = absurd (never told a.0 is a.2)

  -- a command that needs no files
  pub needs_no_files : (result : Status) → Reported words Said result old new fewer more → IsSome (command_of words) → (AsksRecovery words → ⊥) → IsDemonstrated result ⊎ IsFailure before after fewer more result
  needs_no_files result reported some never = answered IsDemonstrated each result reported
    where
      each : (status : Status) → Answers words told left outcomes before after status → IsDemonstrated status ⊎ IsFailure before after fewer more status
      each BadWords a = absurd (none_there words a.1 some)
      each BadJournal a = absurd (never a.1)
      each (StoreFault Recovering) a = absurd (never a.1)
      each OutOfMemory a = inr tt
      each (Done (Printed text)) a = inl tt
      each (Differs request place) a = inl tt
      each other a = absurd (never a.1)

  module _ (files found : Image) (is : told ≡ Some files) (restored : Restored files found) where
    -- a rename is asked for of a file that is held
    module _ (file : List ℕ) (at : ℕ) (name bytes : List ℕ) (asks : AsksRename words file at name) (holds : Holds found file bytes) where
      same_held : (b : List ℕ) → Holds found file b → b ≡ bytes
      same_held b other = same_Some b bytes (sym other.there ∙ holds.there)

      -- what is so of what is asked for is so of this
      asked_here : (here : Option Image) → Recovers told here → (P : List ℕ → ℕ → List ℕ → Type 0) → Asks words here P → (length file ≤ 1024) × P bytes at name
      asked_here here recovers P (f, i, n, asked, short, held) =
          let there = found_files files found told here is restored recovers in
          let one = one_asked words f file i at n name asked asks in
          let h = subst (λ (o : Option Image). ForTold o (λ files. (b : List ℕ) × Holds files f b × P b i n)) there.1 held in
          let b_is : h.0 ≡ bytes = same_held h.0 (subst (λ (p : List ℕ). Holds found p h.0) one.0 (holds_same there.0 found f h.0 there.2 h.1)) in (
            subst (λ (p : List ℕ). length p ≤ 1024) one.0 short,
            subst (λ (m : List ℕ). P bytes at m) one.2 (subst (λ (k : ℕ). P bytes k n) one.1 (subst (λ (b : List ℕ). P b i n) b_is h.2)),
          )

      -- nothing is changed
      as_found : (here : Option Image) → Recovers told here → left ≡ here → Tells (Some found) left (KeepsOtherFiles file bytes)
      as_found here recovers same =
          let there = found_files files found told here is restored recovers in
          subst (λ (o : Option Image). Tells (Some found) o (KeepsOtherFiles file bytes)) (sym (same ∙ there.1)) (there.2 file holds.only.0 ∙ holds.there, λ q java other. there.2 q java)

      abbrev IsMade : List ℕ → Type 0
      IsMade text = IsDone bytes at name text × (text ≢ bytes) × (length text ≤ 1048576) × Tells (Some found) left (KeepsOtherFiles file text)

      -- this file is changed
      made : (g : Image) (l : Option Image) → SameFiles g found → left ≡ l → Tells (Some g) l (IsCommitted file at name) → (text : List ℕ) × IsMade text
      made g None same left_is committed = absurd committed
      made g (Some h) same left_is committed =
          let change = committed.changed in
          let b_is : change.before ≡ bytes = same_held change.before (holds_same g found file change.before same change.held) in (
            change.after,
            (
              subst (λ (b : List ℕ). IsDone b at name change.after) b_is change.renamed,
              subst (λ (b : List ℕ). change.after ≢ b) b_is change.differs,
              change.fits,
              subst (λ (o : Option Image). Tells (Some found) o (KeepsOtherFiles file change.after)) (sym left_is) (change.there, λ q java other. change.others q java other ∙ same q java),
            ),
          )

      made_here : (here : Option Image) → Recovers told here → (f : List ℕ) (i : ℕ) (n : List ℕ) → AsksRename words f i n → Tells here left (IsCommitted f i n) → (text : List ℕ) × IsMade text
      made_here here recovers f i n asked committed =
          let there = found_files files found told here is restored recovers in
          let one = one_asked words f file i at n name asked asks in
          made there.0 left there.2 refl (subst (λ (o : Option Image). Tells o left (IsCommitted file at name)) there.1
          (subst (λ (m : List ℕ). Tells here left (IsCommitted file at m)) one.2 (subst (λ (k : ℕ). Tells here left (IsCommitted file k n)) one.1 (subst (λ (p : List ℕ). Tells here left (IsCommitted p i n)) one.0 committed))))

      module _ (alloc : Global) (r : Renaming) (renames : IsRenaming bytes at name r) where
        -- what comes to another answer to the rename comes to this one
        same_status : (s : Renaming) → IsRenaming bytes at name s → (status said : Status) → length file ≤ 1024 → status ≡ said → Some said ≡ answer_of bytes s → Some status ≡ answer_at file bytes r
        same_status s other status said short status_is said_is =
            ap Some status_is ∙ said_is ∙ same_answer bytes s r (one_answer bytes at name s r other renames) ∙ sym (ap (λ b. if b then Some (TooLarge Path 0) else answer_of bytes r) (le-ltb 1024 (length file) short))

        same_text : (n : ℕ) (text : List ℕ) (fits : length text ≤ 1048576) → IsDone bytes at name text → bytes_after bytes (Done (Changed n)) r ≡ text
        same_text n text fits done = same_bytes bytes n r (held_in alloc text fits) (one_answer bytes at name r (renaming.Renamed (held_in alloc text fits)) renames done)

        small : length bytes ≤ 1048576
        small = omega (arith, holds.small)

        each : (status : Status) → Answers words told left outcomes before after status → IsAnswered found file bytes r left status ⊎ IsFailure before after fewer more status
        each BadWords a = absurd (none-some _ (sym a.1 ∙ asks))
        each BadJournal a = absurd (no_bad_journal files found told is restored a.2)
        each (StoreFault Recovering) a = inr a.2
        each (StoreFault Reading) a = inr a.3.2
        each (StoreFault Writing) a = inr a.3.1
        each OutOfMemory a = inr tt
        each (Done (Printed text)) a = absurd (a.2 (_, asks, tt))
        each (Differs request place) a = absurd (a.2 (_, asks, tt))
        each (Done (Changed zero)) a =
            let asked = asked_here a.0 a.2 (λ b i n. IsDone b i n b) a.3.1 in
            inl (record {
              answer = same_status (renaming.Renamed (held_in alloc bytes small)) asked.1 (Done (Changed 0)) (renamed_answer bytes bytes) asked.0 (sym (unchanged bytes bytes refl)) refl;
              files = subst (λ (b : List ℕ). Tells (Some found) left (KeepsOtherFiles file b)) (sym (same_text 0 bytes small asked.1)) (as_found a.0 a.2 a.3.0);
            })
        each (Done (Changed (suc zero))) a =
            let asked = a.3.0 in
            let one = one_asked words asked.0 file asked.1 at asked.2 name asked.3 asks in
            let m = made_here a.0 a.2 asked.0 asked.1 asked.2 asked.3 asked.5 in
            inl (record {
              answer = same_status (renaming.Renamed (held_in alloc m.0 m.1.2)) m.1.0 (Done (Changed 1)) (renamed_answer bytes m.0) (subst (λ (p : List ℕ). length p ≤ 1024) one.0 asked.4) (sym (changed bytes m.0 m.1.1 m.1.2)) refl;
              files = subst (λ (b : List ℕ). Tells (Some found) left (KeepsOtherFiles file b)) (sym (same_text 1 m.0 m.1.2 m.1.0)) m.1.3;
            })
        each (NoSpelling request occ place lock) a =
            let asked = asked_here a.0 a.2 (λ b i n. IsLost b i n occ place.at lock) a.3.3 in
            inl (record {
              answer = same_status (renaming.NoSpelling occ place.at lock) asked.1 (NoSpelling request occ place lock) (NoSpelling 0 occ (place_of place.at) lock) asked.0
                  (ap (λ q. NoSpelling q occ place lock) a.3.1 ∙ ap (λ u. NoSpelling 0 occ (record { cu = record { 0 = u }; at = place.at }) lock) a.3.2) refl;
              files = as_found a.0 a.2 a.3.0;
            })
        each (BrokenRule request rule place) a =
            let asked = asked_here a.0 a.2 (λ b i n. IsBroken b i n place.at) a.3.4 in
            inl (record {
              answer = same_status (renaming.BrokenRule place.at) asked.1 (BrokenRule request rule place) (BrokenRule 0 LocalNames (place_of place.at)) asked.0
                  (ap (λ q. BrokenRule q rule place) a.3.1 ∙ ap (λ k. BrokenRule 0 k place) a.3.2 ∙ ap (λ u. BrokenRule 0 LocalNames (record { cu = record { 0 = u }; at = place.at })) a.3.3) refl;
              files = as_found a.0 a.2 a.3.0;
            })
        each (TooLarge File request) a =
            let asked = asked_here a.0 a.2 IsTooLong a.3.2 in
            inl (record {
              answer = same_status (renaming.Renamed asked.1.0) asked.1.1 (TooLarge File request) (renamed_answer bytes asked.1.0.items) asked.0 (ap (TooLarge File) a.3.1 ∙ sym (long bytes asked.1.0.items small asked.1.2)) refl;
              files = as_found a.0 a.2 a.3.0;
            })
        each (TooLarge Path request) a =
            let asked = a.3.2 in
            let one = one_asked words asked.0 file asked.1 at asked.2 name asked.3 asks in
            inl (record {
              answer = ap (λ n. Some (TooLarge Path n)) a.3.1 ∙ sym (ap (λ b. if b then Some (TooLarge Path 0) else answer_of bytes r) (lt-ltb 1024 (length file) (subst (λ (p : List ℕ). 1024 < length p) one.0 asked.4)));
              files = as_found a.0 a.2 a.3.0;
            })
        each other a = absurd a.3

        pub exact : (result : Status) → Reported words Said result old new fewer more → IsAnswered found file bytes r left result ⊎ IsFailure before after fewer more result
        exact result reported = answered (IsAnswered found file bytes r left) each result reported
