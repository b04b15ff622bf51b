-- From what was decided, and what was done then, to the answer.
use Rattle.std.proofs.Common.{◌≡◌, ◌≢◌, ℕ, ◌≤◌, List, [], ◌∷◌, length, Option, Some, None, refl, sym, ap, subst, ◌∙◌, inl, inr, ⊎_elim, ◌⊎◌, arith, Vec, Global}
use Rattle.jr_commit.specs.Planned.{Planned, ChangesOnlyPlanned}
use Rattle.jr_commit.specs.Restoring.{RestoresTo, SameFiles}
use Rattle.jr_store.specs.Image.{Image, Tells, OnlyTold, Rose}
use Rattle.std.proofs.lemmas.Option.{none-some, same_Some}
use Rattle.jr_top.specs.Changing.{IsCommitted, IsPlanOf, MayChange}
use Rattle.jr_top.specs.Crash.{StandsForChange, StandsForEither, StandsAfter, IsSettled, SurvivesSettled}
use Rattle.jr_top.specs.Performing.{IsTaken, Commits, Reported}
use Rattle.jr_commit.specs.Planned.{StartsCommit}
use Rattle.jr_commit.specs.SidesAt.{with_sides}
use Rattle.jr_commit.proofs.Moments.{goes_further}
use Rattle.jr_store.specs.Image.{LeavesOnly}
use Rattle.jr_top.proofs.Carried.{weaker}
use Rattle.jr_top.proofs.Outcomes.{rose_earlier}
use Rattle.jr_top.proofs.Settled.{settled_stands, starts, restores_same, stands_changed, committed, some_step, off_one, stands_committed}
use Rattle.jr_thin.specs.Renaming.{IsDone}
use Rattle.jr_top.specs.Line.{line_of}
use Rattle.jr_top.specs.Renaming.{AsksRename, files_named, Holds, ForTold}
use Rattle.jr_top.specs.Decisions.{HoldsSome, Decides}
use Rattle.jr_base.specs.declared.limits.Size.TheVariants.{File, Path}
use Rattle.jr_top.specs.Answers.{LeavesChange, AnswersFound, Reports, IsReported, reported}
use Rattle.jr_top.specs.declared.decide.Decision.TheVariants.{Answer, Refuse}
use Rattle.jr_top.specs.declared.status.Phase.TheVariants.{Reading, Writing}
use Rattle.jr_top.specs.declared.status.Report.TheVariants.{Changed}
use Rattle.jr_top.specs.declared.status.Status.{Status}
use Rattle.jr_top.specs.declared.status.Status.TheVariants.{Done, NoSpelling, BrokenRule, StoreFault, TooLarge, OutOfMemory}

module _ (words : List (List ℕ)) (told : Option Image) (before after : ℕ) where
  some_held : (t : Option Image) (file : List ℕ) → HoldsSome t file (λ bytes. Unit {0}) → ForTold t (λ files. (bytes : List ℕ) × Holds files file bytes)
  some_held None file held = tt
  some_held (Some files) file held = (held.0, held.1)

  -- an answer that leaves the files
  pub answered : (left : Option Image) (outcomes : Image → Type 0) (status : Status) → left ≡ told → Decides words told before after (Answer status) →
      AnswersFound words told left outcomes before after status × (line_of [] status ≡ reported words status)
  answered left outcomes (Done (Changed files)) same (file, at, name, asked, (none, short, held)) =
      (subst (λ (n : ℕ). LeavesChange words told left outcomes n) (sym none) (same, (file, at, name, asked, short, held)), refl)
  answered left outcomes (TooLarge Path request) same (file, at, name, asked, (single, long, held)) = ((same, single, (file, at, name, asked, long, some_held told file held)), refl)
  answered left outcomes (TooLarge File request) same (file, at, name, asked, (single, short, held)) = ((same, single, (file, at, name, asked, short, held)), refl)
  answered left outcomes (StoreFault Reading) same (file, at, name, asked, rose) = ((same, (file, at, name, asked), rose), refl)
  answered left outcomes OutOfMemory same decides = (same, refl)
  answered left outcomes other same (file, at, name, asked, never) = absurd never

  -- an answer that leaves the files, and shows a place
  pub refused : (left : Option Image) (outcomes : Image → Type 0) (status : Status) (paths : Vec (List ℕ) Global) → left ≡ told → Decides words told before after (Refuse status paths) →
      AnswersFound words told left outcomes before after status × (line_of paths.items status ≡ reported words status)
  refused left outcomes (NoSpelling request occ place lock) paths same (file, at, name, asked, (single, unit, named, short, held)) =
      ((same, single, unit, (file, at, name, asked, short, held)), ap (λ (ps : List (List ℕ)). line_of ps (NoSpelling request occ place lock)) (named ∙ sym (ap files_named asked)))
  refused left outcomes (BrokenRule request rule place) paths same (file, at, name, asked, (single, six, unit, named, short, held)) =
      ((same, single, six, unit, (file, at, name, asked, short, held)), ap (λ (ps : List (List ℕ)). line_of ps (BrokenRule request rule place)) (named ∙ sym (ap files_named asked)))
  refused left outcomes other paths same (file, at, name, asked, never) = absurd never

  -- after an answer that leaves the files a crash leaves those found
  pub stays : (status : Status) → Decides words told before after (Answer status) → (found image : Image) → RestoresTo image found → StandsAfter words found status image
  stays (Done (Changed files)) (file, at, name, asked, (none, short, held)) found image stands = subst (λ (n : ℕ). StandsAfter words found (Done (Changed n)) image) (sym none) stands
  stays (Done other) decides found image stands = stands
  stays (StoreFault phase) decides found image stands = inl stands
  stays other decides found image stands = stands

  pub stays_refused : (status : Status) (paths : Vec (List ℕ) Global) → Decides words told before after (Refuse status paths) → (found image : Image) → RestoresTo image found → StandsAfter words found status image
  stays_refused (Done report) paths (file, at, name, asked, never) found image stands = absurd never
  stays_refused (StoreFault phase) paths decides found image stands = inl stands
  stays_refused other paths decides found image stands = stands

module _ (words : List (List ℕ)) (told left : Option Image) (kept outcomes : Image → Type 0) (before after : ℕ) where
  abbrev Said : Status → Type 0
  Said status = AnswersFound words told left outcomes before after status × SurvivesSettled words told kept outcomes status

  -- what is reported of an answer that leaves the files: it, or want of memory
  pub reports : (status result : Status) (paths : List (List ℕ)) (old new : Option (List ℕ)) (fewer more : ℕ) → left ≡ told → ((c : Image) → outcomes c → kept c) →
      AnswersFound words told left outcomes before after status × (line_of paths status ≡ reported words status) →
      ((found image : Image) → RestoresTo image found → StandsAfter words found status image) →
      IsReported status paths result old new fewer more → Reported words Said result old new fewer more
  reports status result paths old new fewer more same fewer_left a after_it (final, inl is, r) = (
    status,
    (a.0, λ files found told_is settled image l. after_it found image (settled_stands files found kept settled image (fewer_left image l))),
    subst (λ (l : List ℕ). Reports status l result old new fewer more) a.1 (subst (λ (f : Status). Reports f (line_of paths f) result old new fewer more) is r),
  )
  reports status result paths old new fewer more same fewer_left a after_it (final, inr is, r) = (
    OutOfMemory,
    (same, λ files found told_is settled image l. settled_stands files found kept settled image (fewer_left image l)),
    subst (λ (f : Status). Reports f (line_of paths f) result old new fewer more) is r,
  )

  module _ (file : List ℕ) (at : ℕ) (name : List ℕ) (plan : Planned) (asked : AsksRename words file at name) (short : length file ≤ 1024) (single : length plan.steps ≡ 1) where
    abbrev Planned_of : Option Image → Type 0
    Planned_of t = HoldsSome t file (λ old. (new : List ℕ) × IsDone old at name new × (new ≢ old) × (length new ≤ 1048576) × IsPlanOf file old new plan)

    tell_done : (t l : Option Image) → Planned_of t → Tells t l (IsTaken plan) → Tells t l (IsCommitted file at name)
    tell_done None None held taken = tt
    tell_done None (Some g) held taken = taken
    tell_done (Some f) None held taken = taken
    tell_done (Some f) (Some g) (old, holds, (new, done, differs, fits, is)) taken = committed f file old new plan holds is at name done differs fits g taken

    tell_part : (t l : Option Image) → Planned_of t → Tells t l (ChangesOnlyPlanned plan) → Tells t l (MayChange file)
    tell_part None None held part = tt
    tell_part None (Some g) held part = part
    tell_part (Some f) None held part = part
    tell_part (Some f) (Some g) (old, holds, (new, done, differs, fits, is)) part = λ q other no_journal no_gate. part q no_journal no_gate (off_one file old new plan is q other)

    only_left : (t l : Option Image) → Planned_of t → Tells t l (IsTaken plan) → (plan.steps ≢ [] → OnlyTold l outcomes) → OnlyTold l outcomes
    only_left None None held taken only = tt
    only_left None (Some g) held taken only = absurd taken
    only_left (Some f) None held taken only = absurd taken
    only_left (Some f) (Some g) (old, holds, (new, done, differs, fits, is)) taken only = only (some_step f file old new plan holds is)

    survives_done : (t l : Option Image) (f r : Image) → t ≡ Some f → SameFiles f r → Planned_of t → Tells t l (IsTaken plan) → (plan.steps ≢ [] → OnlyTold l outcomes) → (c : Image) → outcomes c → StandsForChange words r c
    survives_done None l f r told_is same held taken only c left = absurd (none-some f told_is)
    survives_done (Some h) None f r told_is same held taken only c left = absurd taken
    survives_done (Some h) (Some g) f r told_is same (old, holds, (new, done, differs, fits, is)) taken only c left =
        let steps = some_step h file old new plan holds is in
        let here : SameFiles h r = subst (λ (i : Image). SameFiles i r) (sym (same_Some h f told_is)) same in
        subst (StandsForChange words r) (sym (only steps c left))
        (stands_committed h file old new plan holds is at name done differs fits words r g asked here taken (λ opened. none-some (49 ∷ []) (sym (taken.journal steps).1 ∙ opened)))

    -- what a change comes to
    pub changed : (middle : ℕ) (mid : Option Image) (entered : Image → Type 0) (status : Status) → mid ≡ told → before ≤ middle → ((c : Image) → entered c → kept c) → Planned_of told →
        ((files found : Image) → told ≡ Some files → IsSettled files found kept → (c : Image) → outcomes c → StandsForEither words found c) →
        Commits plan mid left entered outcomes middle after status → Said status × (line_of [] status ≡ reported words status)
    changed middle mid entered (Done (Changed files)) same later fewer held either (one, taken_mid, only) =
        let taken = subst (λ (t : Option Image). Tells t left (IsTaken plan)) same taken_mid in
        subst (λ (n : ℕ). Said (Done (Changed n)) × (line_of [] (Done (Changed n)) ≡ reported words (Done (Changed n)))) (sym (one ∙ single)) (
          (
            ((file, at, name, asked, short, tell_done told left held taken), only_left told left held taken only),
            λ f r told_is settled c l. survives_done told left f r told_is settled.same held taken only c l,
          ),
          refl,
        )
    changed middle mid entered (StoreFault Writing) same later fewer held either (part, rose) =
        ((((file, at, name, asked, tell_part told left held (subst (λ (t : Option Image). Tells t left (ChangesOnlyPlanned plan)) same part)), rose_earlier before middle after later rose), either), refl)
    changed middle mid entered OutOfMemory same later fewer held either (left_is, outcomes_are) =
        ((left_is ∙ same, λ f r told_is settled c l. settled_stands f r kept settled c (fewer c (outcomes_are c l))), refl)
    changed middle mid entered other same later fewer held either never = absurd never

  pub reports_change : (status result : Status) (old new : Option (List ℕ)) (fewer more : ℕ) →
      Said status × (line_of [] status ≡ reported words status) → Reports status (line_of [] status) result old new fewer more → Reported words Said result old new fewer more
  reports_change status result old new fewer more a r = (status, a.0, subst (λ (l : List ℕ). Reports status l result old new fewer more) a.1 r)

-- the run of a decision and a change
pub either_run : {S : Type 0} (moment : S → ℕ) (left_since : S → ℕ → Image → Type 0) (words : List (List ℕ)) (f r : Image) (kept entered : Image → Type 0) (s0 s1 s2 : S) (file : List ℕ) (at : ℕ) (name : List ℕ) (plan : Planned) → AsksRename words file at name →
    (told : Option Image) → told ≡ Some f → IsSettled f r kept → ((c : Image) → entered c → kept c) →
    HoldsSome told file (λ old. (new : List ℕ) × IsDone old at name new × (new ≢ old) × (length new ≤ 1048576) × IsPlanOf file old new plan) →
    LeavesOnly moment left_since s0 s1 kept → (StartsCommit f entered plan → LeavesOnly moment left_since s1 s2 (λ c. RestoresTo c f ⊎ RestoresTo c (with_sides plan.steps f))) →
    LeavesOnly moment left_since s0 s2 (StandsForEither words r)
either_run moment left_since words f r kept entered s0 s1 s2 file at name plan asked told told_is settled fewer held first second =
    go (subst (λ (t : Option Image). HoldsSome t file (λ old. (new : List ℕ) × IsDone old at name new × (new ≢ old) × (length new ≤ 1048576) × IsPlanOf file old new plan)) told_is held)
  where
    go : HoldsSome (Some f) file (λ old. (new : List ℕ) × IsDone old at name new × (new ≢ old) × (length new ≤ 1048576) × IsPlanOf file old new plan) → LeavesOnly moment left_since s0 s2 (StandsForEither words r)
    go (old, holds, (new, done, differs, fits, is)) =
        let begun = starts f file old new plan holds is r entered (record { shut = settled.shut; same = settled.same; journal = settled.journal; left = λ c l. settled.left c (fewer c l) }) in
        goes_further moment left_since s0 s1 s2 (StandsForEither words r) (λ c. RestoresTo c f ⊎ RestoresTo c (with_sides plan.steps f))
        (weaker moment left_since s0 s1 (StandsForEither words r) kept first (λ c l. inl (settled_stands f r kept settled c l)))
        (second begun)
        (λ c stands. ⊎_elim (λ was. inl (restores_same c f r was settled.same)) (λ now. inr (stands_changed f file old new plan holds is at name done differs fits words r c asked settled.same now)) stands)
