-- From the plan that takes the last change back, or the reason why there is none, to the answer to an undo.
use Rattle.std.proofs.Common.{◌≡◌, ◌≢◌, ◌⊎◌, inl, inr, ⊎_elim, ℕ, suc, ◌≤◌, List, [], ◌∷◌, length, Option, Some, None, refl, sym, ap, subst, ◌∙◌, arith}
use Rattle.std.specs.Prelude.{IsSome}
use Rattle.std.specs.List.{AllByRecursion}
use Rattle.std.specs.Io.KnownBytes.{Appends}
use Rattle.std.proofs.lemmas.Option.{same_Some, none-some}
use Rattle.jr_commit.specs.Entries.{PlainEntry}
use Rattle.jr_commit.specs.Journal.{IsShaped, IsChange, old_sides}
use Rattle.jr_commit.specs.Planned.{Planned, StartsCommit, ChangesOnlyPlanned}
use Rattle.jr_commit.specs.Restoring.{journal_path, IsOpen, Restored, RestoresTo, SameFiles, StartsRecover}
use Rattle.jr_commit.specs.SidesAt.{SideAt, with_sides, IsOff}
use Rattle.jr_commit.specs.Undoing.{KeepsBoth, HoldsNew, IsUndoable, Undone, IsFirstEdited, IsUndoFault, exchanged, TakesBack}
use Rattle.jr_commit.specs.declared.entry.Version.TheVariants.{Two}
use Rattle.jr_commit.specs.declared.undo.UndoFault.{UndoFault}
use Rattle.jr_commit.specs.declared.undo.UndoFault.TheVariants as fault
use Rattle.jr_commit.proofs.Moments.{goes_further}
use Rattle.jr_commit.proofs.Phases.{shut_image}
use Rattle.jr_commit.proofs.Putting.{with_sides_at}
use Rattle.jr_commit.proofs.Undoing.{undone_holds}
use Rattle.jr_request.specs.declared.command.Command.TheVariants.{Undo}
use Rattle.jr_store.specs.Image.{Image, Tells, OnlyTold, Rose, LeavesOnly}
use Rattle.jr_top.specs.Answers.{Reports, IsReported, reported, Outcome, IsFailure}
use Rattle.jr_top.specs.Crash.{StandsForUndone, StandsForEither, StandsAfter, IsSettled, Survives, SurvivesSettled}
use Rattle.jr_top.specs.Decisions.{IsRename}
use Rattle.jr_top.specs.Line.{line_of}
use Rattle.jr_top.specs.Performing.{IsTaken, Commits, Reported}
use Rattle.jr_top.specs.Plain.{AnswersPlain}
use Rattle.jr_top.specs.Recovering.{Recovers}
use Rattle.jr_top.specs.Renaming.{AsksRename, files_named, ForTold}
use Rattle.jr_top.specs.Undoing.{AsksUndo, IsNotUndoable, IsTakenBack, IsBack, IsPartlyBack, Undoes, AnswersUndo, IsUndoAnswer, no_undo}
use Rattle.jr_top.specs.declared.status.Phase.TheVariants.{Recovering, Reading, Writing}
use Rattle.jr_top.specs.declared.status.Report.TheVariants.{Changed}
use Rattle.jr_top.specs.declared.status.Status.{Status}
use Rattle.jr_top.specs.declared.status.Status.TheVariants.{Done, NoUndo, StoreFault, SinkFault, OutOfMemory, BadJournal}
use Rattle.jr_top.proofs.Carried.{weaker, journal_kept, journal_restored, settled, still_told}
use Rattle.jr_top.proofs.Outcomes.{for_told, rose_earlier, no_bad_journal}
use Rattle.jr_top.proofs.PlainAnswers.{IsPlain, plain, reports_of, unnamed}
use Rattle.jr_top.proofs.Settled.{settled_stands, restores_same}

-- words that ask for a rename ask for no undo
pub no_undo_asked : (words : List (List ℕ)) (file : List ℕ) (at : ℕ) (name : List ℕ) → AsksRename words file at name → AsksUndo words → ⊥
no_undo_asked words file at name asks undo = subst IsRename (same_Some _ _ (sym asks ∙ undo)) tt

-- an undo names no file
pub undo_plain : (words : List (List ℕ)) → AsksUndo words → IsPlain words [] (reported words)
undo_plain words asks = unnamed words (Undo, asks, tt) (ap files_named asks)

-- ---- images with the same files and the same journal

pub holds_same : (a b : Image) → SameFiles a b → (es : List PlainEntry) → AllByRecursion IsChange es → AllByRecursion (HoldsNew a) es → AllByRecursion (HoldsNew b) es
holds_same a b same [] changes all = tt
holds_same a b same (e ∷ es) changes all = (all.0 ∙ ap Some (same e.0 changes.0.java), holds_same a b same es changes.1 all.1)

module _ (a b : Image) (same : SameFiles a b) (at : a journal_path ≡ b journal_path) where
  kept_same : (es : List PlainEntry) → KeepsBoth a es → KeepsBoth b es
  kept_same es (bytes, there, is) = (bytes, sym at ∙ there, is)

  kept_back : (es : List PlainEntry) → KeepsBoth b es → KeepsBoth a es
  kept_back es (bytes, there, is) = (bytes, at ∙ there, is)

  pub undoable_same : (es : List PlainEntry) → IsUndoable a es → IsUndoable b es
  undoable_same es undoable = record { journal = kept_same es undoable.journal; holds = holds_same a b same es undoable.journal.2.changes undoable.holds }

  edited_same : (es : List PlainEntry) (path : List ℕ) → AllByRecursion IsChange es → IsFirstEdited a es path → IsFirstEdited b es path
  edited_same [] path changes never_so = never_so
  edited_same (e ∷ es) path changes (inl (differs, is)) = inl (λ held. differs (held ∙ ap Some (sym (same e.0 changes.0.java))), is)
  edited_same (e ∷ es) path changes (inr (held, rest)) = inr (held ∙ ap Some (same e.0 changes.0.java), edited_same es path changes.1 rest)

  pub refused_same : (reason : ℕ) (path : Option (List ℕ)) → IsNotUndoable a reason path → IsNotUndoable b reason path
  refused_same reason None (inl (one, none)) = inl (one, sym at ∙ none)
  refused_same reason None (inr (two, some, other)) = inr (two, subst IsSome at some, λ es kept. other es (kept_back es kept))
  refused_same reason (Some path) (three, (es, kept, edited)) = (three, (es, kept_same es kept, edited_same es path kept.2.changes edited))

-- ---- the plan

some_old : (es : List PlainEntry) → 1 ≤ length (exchanged es) → AllByRecursion (IsShaped Two) (exchanged es) → old_sides es ≢ []
some_old [] few shaped = absurd (omega arith)
some_old ((path, None, new) ∷ es) few shaped = let some : IsSome {T = Option (List ℕ)} None = shaped.0.new in absurd cc
some_old ((path, Some old, new) ∷ es) few shaped = λ none. cc none

length_old : (es : List PlainEntry) → AllByRecursion (IsShaped Two) (exchanged es) → length (old_sides es) ≡ length es
length_old [] shaped = refl
length_old ((path, None, new) ∷ es) shaped = let some : IsSome {T = Option (List ℕ)} None = shaped.0.new in absurd cc
length_old ((path, Some old, new) ∷ es) shaped = ap suc (length_old es shaped.1)

next_of : (es : List PlainEntry) → 1 ≤ length (exchanged es) → (n : ℕ) × (length es ≡ suc n)
next_of [] few = absurd (omega arith)
next_of (e ∷ es) few = (length es, refl)

module _ (es : List PlainEntry) (plan : Planned) (back : TakesBack es plan) where
  pub some_step : plan.steps ≢ []
  some_step none = some_old es back.again.enough back.again.shaped (sym back.steps ∙ none)

  pub count_steps : length plan.steps ≡ length es
  count_steps = ap length back.steps ∙ length_old es back.again.shaped

  off_steps : (q : List ℕ) → IsOff (old_sides es) q → IsOff plan.steps q
  off_steps q off = subst (λ (l : List SideAt). IsOff l q) (sym back.steps) off

  module _ (f : Image) (undoable : IsUndoable f es) where
    pub starts_back : (r : Image) (outcomes : Image → Type 0) → IsSettled f r outcomes → StartsCommit f outcomes plan
    starts_back r outcomes is = record {
      shut = is.shut;
      gate = λ c left. (is.left c left).0;
      files = λ c left q java. (is.left c left).1 q java ∙ sym (is.same q java);
      olds = λ olds puts. back.olds f undoable.holds olds puts;
    }

    pub taken_back : (g : Image) → IsTaken plan f g → IsTakenBack es f g
    taken_back g taken =
        let files : Undone es f g = subst (λ (l : List SideAt). SameFiles g (with_sides l f)) back.steps taken.files in
        record {
          undoable = undoable;
          files = files;
          journal = (taken.journal some_step).0 ∙ ap Some back.journal;
          gate = (taken.journal some_step).1;
          again = record {
            journal = (plan.journal, (taken.journal some_step).0, back.again);
            holds = holds_same (with_sides (old_sides es) f) g (λ q java. sym (files q java)) (exchanged es) back.again.changes (undone_holds undoable.journal.0 es f undoable.journal.2);
          };
          others = λ q off no_journal no_gate. taken.others q no_journal no_gate (off_steps q off);
        }

    pub stands_undone : (words : List (List ℕ)) (r c : Image) (outcomes : Image → Type 0) → AsksUndo words → IsSettled f r outcomes → RestoresTo c (with_sides plan.steps f) → StandsForUndone words r c
    stands_undone words r c outcomes asks is stands = (
      asks,
      (
        es,
        undoable_same f r is.same is.journal es undoable,
        restores_same c (with_sides plan.steps f) (with_sides (old_sides es) r) stands
            (λ q java. ap (λ (l : List SideAt). with_sides l f q) back.steps ∙ with_sides_at (old_sides es) f r q (is.same q java)),
      ),
    )

    -- the run of the reads and the change
    pub run_back : {S : Type 0} (moment : S → ℕ) (left_since : S → ℕ → Image → Type 0) (words : List (List ℕ)) (r : Image) (kept entered : Image → Type 0) (s0 s1 s2 : S) → AsksUndo words → IsSettled f r kept → ((c : Image) → entered c → kept c)
        → LeavesOnly moment left_since s0 s1 kept → (StartsCommit f entered plan → LeavesOnly moment left_since s1 s2 (λ c. RestoresTo c f ⊎ RestoresTo c (with_sides plan.steps f)))
        → LeavesOnly moment left_since s0 s2 (StandsForEither words r)
    run_back moment left_since words r kept entered s0 s1 s2 asks is fewer first second =
        goes_further moment left_since s0 s1 s2 (StandsForEither words r) (λ c. RestoresTo c f ⊎ RestoresTo c (with_sides plan.steps f))
        (weaker moment left_since s0 s1 (StandsForEither words r) kept first (λ c l. inl (settled_stands f r kept is c l)))
        (second (starts_back r entered (record { shut = is.shut; same = is.same; journal = is.journal; left = λ c l. is.left c (fewer c l) })))
        (λ c stands. ⊎_elim (λ was. inl (restores_same c f r was is.same)) (λ now. inr (inr (inl (stands_undone words r c kept asks is now)))) stands)

-- ---- what is answered after recovery

module _ (words : List (List ℕ)) (asks : AsksUndo words) (told left : Option Image) (kept outcomes : Image → Type 0) (before after : ℕ) where
  abbrev pub SaidFound : Status → Type 0
  SaidFound status = Undoes told left outcomes before after status × SurvivesSettled words told kept outcomes status

  stays : left ≡ told → ((c : Image) → outcomes c → kept c) → (f r : Image) → told ≡ Some f → IsSettled f r kept → (c : Image) → outcomes c → RestoresTo c r
  stays same fewer f r told_is is c l = settled_stands f r kept is c (fewer c l)

  -- there is no plan
  refused_so : left ≡ told → ((c : Image) → outcomes c → kept c) → (reason : UndoFault) → (reason ≡ fault.Failed → Rose before after) → ((f : Image) → told ≡ Some f → IsUndoFault f reason) → SaidFound (no_undo reason)
  refused_so same fewer fault.Failed rose because = ((same, rose refl), λ f r told_is is c l. inl (stays same fewer f r told_is is c l))
  refused_so same fewer fault.OutOfMemory rose because = (same, stays same fewer)
  refused_so same fewer fault.NoJournal rose because = ((same, for_told told (λ files. IsNotUndoable files 1 None) (λ f is. inl (refl, because f is))), stays same fewer)
  refused_so same fewer fault.OneSided rose because = ((same, for_told told (λ files. IsNotUndoable files 2 None) (λ f is. inr (refl, (because f is).0, (because f is).1))), stays same fewer)
  refused_so same fewer (fault.Edited path) rose because = ((same, for_told told (λ files. IsNotUndoable files 3 (Some path)) (λ f is. (refl, because f is))), stays same fewer)

  pub reports_refused : left ≡ told → ((c : Image) → outcomes c → kept c) → (reason : UndoFault) → (reason ≡ fault.Failed → Rose before after) → ((f : Image) → told ≡ Some f → IsUndoFault f reason)
      → (status result : Status) (old new : Option (List ℕ)) (fewer more : ℕ) → status ≡ no_undo reason → IsReported status [] result old new fewer more → Reported words SaidFound result old new fewer more
  reports_refused same few reason rose because status result old new fewer more is r =
      reports_of words (undo_plain words asks) SaidFound status result old new fewer more (subst SaidFound (sym is) (refused_so same few reason rose because)) (same, stays same few) r

  module _ (es : List PlainEntry) (plan : Planned) (back : TakesBack es plan) (undoable : (f : Image) → told ≡ Some f → IsUndoable f es) where
    tell_back : (files : ℕ) → files ≡ length plan.steps → (t l : Option Image) → ((f : Image) → t ≡ Some f → IsUndoable f es) → Tells t l (IsTaken plan) → Tells t l (IsBack files)
    tell_back files count None None can taken = tt
    tell_back files count None (Some g) can taken = taken
    tell_back files count (Some f) None can taken = taken
    tell_back files count (Some f) (Some g) can taken = (es, count ∙ count_steps es plan back, taken_back es plan back f (can f refl) g taken)

    tell_part : (t l : Option Image) → ((f : Image) → t ≡ Some f → IsUndoable f es) → Tells t l (ChangesOnlyPlanned plan) → Tells t l IsPartlyBack
    tell_part None None can part = tt
    tell_part None (Some g) can part = part
    tell_part (Some f) None can part = part
    tell_part (Some f) (Some g) can part = (es, can f refl, λ q off no_journal no_gate. part q no_journal no_gate (off_steps es plan back q off))

    survives_back : (t l : Option Image) (f r : Image) → t ≡ Some f → IsUndoable f es → IsSettled f r kept → Tells t l (IsTaken plan) → OnlyTold l outcomes → (c : Image) → outcomes c → StandsForUndone words r c
    survives_back None l f r told_is can is taken only c left_so = absurd (none-some f told_is)
    survives_back (Some h) None f r told_is can is taken only c left_so = absurd taken
    survives_back (Some h) (Some g) f r told_is can is taken only c left_so =
        let here : IsTaken plan f g = subst (λ (i : Image). IsTaken plan i g) (same_Some h f told_is) taken in
        let gate = (here.journal (some_step es plan back)).1 in
        subst (StandsForUndone words r) (sym (only c left_so))
        (stands_undone es plan back f can words r g kept asks is (shut_image g (with_sides plan.steps f) (λ opened. none-some (49 ∷ []) (sym gate ∙ opened)) here.files))

    changed_so : (middle : ℕ) (mid : Option Image) (entered : Image → Type 0) (status : Status) → mid ≡ told → before ≤ middle → ((c : Image) → entered c → kept c)
        → ((f r : Image) → told ≡ Some f → IsSettled f r kept → (c : Image) → outcomes c → StandsForEither words r c)
        → Commits plan mid left entered outcomes middle after status → SaidFound status
    changed_so middle mid entered (Done (Changed files)) same later fewer either (count, taken_mid, only) =
        let taken : Tells told left (IsTaken plan) = subst (λ (t : Option Image). Tells t left (IsTaken plan)) same taken_mid in
        let next = next_of es back.again.enough in (
          (tell_back files count told left undoable taken, only (some_step es plan back)),
          λ f r told_is is c l. subst (λ (n : ℕ). StandsAfter words r (Done (Changed n)) c) (sym (count ∙ count_steps es plan back ∙ next.1))
              (inr (inl (survives_back told left f r told_is (undoable f told_is) is taken (only (some_step es plan back)) c l))),
        )
    changed_so middle mid entered (StoreFault Writing) same later fewer either (part, rose) =
        ((tell_part told left undoable (subst (λ (t : Option Image). Tells t left (ChangesOnlyPlanned plan)) same part), rose_earlier before middle after later rose), either)
    changed_so middle mid entered OutOfMemory same later fewer either (left_is, outcomes_are) =
        (left_is ∙ same, λ f r told_is is c l. settled_stands f r kept is c (fewer c (outcomes_are c l)))
    changed_so middle mid entered other same later fewer either never_so = absurd never_so

    pub reports_changed : (middle : ℕ) (mid : Option Image) (entered : Image → Type 0) (status result : Status) (old new : Option (List ℕ)) (fewer more : ℕ) → mid ≡ told → before ≤ middle → ((c : Image) → entered c → kept c)
        → ((f r : Image) → told ≡ Some f → IsSettled f r kept → (c : Image) → outcomes c → StandsForEither words r c)
        → Commits plan mid left entered outcomes middle after status → Reports status (line_of [] status) result old new fewer more → Reported words SaidFound result old new fewer more
    reports_changed middle mid entered status result old new fewer more same later few either commits r =
        (status, changed_so middle mid entered status same later few either commits, subst (λ (l : List ℕ). Reports status l result old new fewer more) (plain words (undo_plain words asks) status) r)

-- ---- what is answered by the whole call

earlier_undo : (found left : Option Image) (outcomes : Image → Type 0) (before middle after : ℕ) (status : Status) → before ≤ middle → Undoes found left outcomes middle after status → Undoes found left outcomes before after status
earlier_undo found left outcomes before middle after (StoreFault Reading) later a = (a.0, rose_earlier before middle after later a.1)
earlier_undo found left outcomes before middle after (StoreFault Writing) later a = (a.0, rose_earlier before middle after later a.1)
earlier_undo found left outcomes before middle after (StoreFault other) later a = absurd a
earlier_undo found left outcomes before middle after (Done (Changed files)) later a = a
earlier_undo found left outcomes before middle after (Done other) later a = absurd a
earlier_undo found left outcomes before middle after (NoUndo reason path) later a = a
earlier_undo found left outcomes before middle after OutOfMemory later a = a
earlier_undo found left outcomes before middle after other later a = absurd a

module _ (words : List (List ℕ)) (told left : Option Image) (kept outcomes : Image → Type 0) (before after : ℕ) where
  abbrev pub SaidUndo : Status → Type 0
  SaidUndo status = AnswersUndo words told left outcomes before after status × Survives words told kept outcomes status

  -- an answer of recovery's own
  pub recovery_said : (result : Status) (old new : Option (List ℕ)) (fewer more : ℕ) → Reported words (λ status. AnswersPlain words told left outcomes before after (λ said. ⊥) status × Survives words told kept outcomes status) result old new fewer more
      → Reported words SaidUndo result old new fewer more
  recovery_said result old new fewer more (status, (answer, survives), reports) = (status, (inl answer, survives), reports)

  module _ (found : Option Image) (settled_outcomes : Image → Type 0) (middle : ℕ) (later : before ≤ middle) (recovered : Recovers told found)
      (closed : (f r : Image) → told ≡ Some f → Restored f r → StartsRecover f kept → (c : Image) → settled_outcomes c → (IsOpen c → ⊥) × SameFiles c r) where
    pub carried_undo : (result : Status) (old new : Option (List ℕ)) (fewer more : ℕ)
        → Reported words (λ status. Undoes found left outcomes middle after status × SurvivesSettled words found settled_outcomes outcomes status) result old new fewer more → Reported words SaidUndo result old new fewer more
    carried_undo result old new fewer more (status, (answer, survives), reports) = (
      status,
      (
        inr (found, recovered, earlier_undo found left outcomes before middle after status later answer),
        λ f r told_is restored start c l.
            let g = still_told told found f recovered told_is in
            survives g.0 r g.1 (settled told found settled_outcomes f g.0 r recovered told_is g.1 restored (closed f r told_is restored start)) c l,
      ),
      reports,
    )

  module _ (old new : Option (List ℕ)) (fewer more : ℕ) where
    silent : AnswersUndo words told left outcomes before after SinkFault → ⊥
    silent (inl a) = a.1
    silent (inr a) = a.2

    written : (status : Status) → SaidUndo status → Appends old new (reported words status) → Outcome words SaidUndo old new fewer more status
    written SinkFault said appends = absurd (silent said.0)
    written other said appends = (said, appends)

    pub outcome : (result : Status) → Reported words SaidUndo result old new fewer more → Outcome words SaidUndo old new fewer more result
    outcome result (status, said, inl done) = subst (Outcome words SaidUndo old new fewer more) (sym done.0) (written status said done.1)
    outcome result (status, said, inr failed) = subst (Outcome words SaidUndo old new fewer more) (sym failed.0) (status, said, failed.1, failed.2)

    -- no files stand behind the journal
    module _ (files : Image) (is : told ≡ Some files) (none : (restored : Image) → Restored files restored → ⊥) where
      unread : (found : Option Image) → Recovers told found → ⊥
      unread found recovered = never_recovers told found is recovered
        where
          never_recovers : (t u : Option Image) → t ≡ Some files → Recovers t u → ⊥
          never_recovers None u t_is recovers = none-some files t_is
          never_recovers (Some f) None t_is recovers = recovers
          never_recovers (Some f) (Some g) t_is recovers = none recovers.stood.0 (subst (λ (i : Image). Restored i recovers.stood.0) (same_Some f files t_is) recovers.stood.1)

      bad : (status : Status) → AnswersUndo words told left outcomes before after status → (status ≡ BadJournal) ⊎ IsFailure before after fewer more status
      bad status (inr a) = absurd (unread a.0 a.1)
      bad BadJournal (inl a) = inl refl
      bad (StoreFault Recovering) (inl a) = inr a.2
      bad (StoreFault other) (inl a) = absurd a.1
      bad OutOfMemory (inl a) = inr tt
      bad other (inl a) = absurd a.1

      pub unreadable : (result : Status) → Reported words SaidUndo result old new fewer more → (result ≡ BadJournal) ⊎ IsFailure before after fewer more result
      unreadable result (status, said, inl done) = subst (λ (x : Status). (x ≡ BadJournal) ⊎ IsFailure before after fewer more x) (sym done.0) (bad status said.0)
      unreadable result (status, said, inr failed) = inr (subst (IsFailure before after fewer more) (sym failed.0) failed.2)

    -- the one answer of the files found
    module _ (files found : Image) (is : told ≡ Some files) (restored : Restored files found) where
      -- recovery has left the files and the journal that were found
      as_found : (t here : Option Image) → t ≡ Some files → Recovers t here → (g : Image) × (here ≡ Some g) × SameFiles g found × (g journal_path ≡ found journal_path)
      as_found None here t_is recovers = absurd (none-some files t_is)
      as_found (Some f) None t_is recovers = absurd recovers
      as_found (Some f) (Some g) t_is recovers =
          let f_is : f ≡ files = same_Some f files t_is in (
            g,
            refl,
            recovers.files found (subst (λ (i : Image). Restored i found) (sym f_is) restored),
            journal_kept f g recovers.others ∙ ap (λ (i : Image). i journal_path) f_is ∙ sym (journal_restored files found restored),
          )

      done_as : (n : ℕ) (g : Image) (l : Option Image) → SameFiles g found → g journal_path ≡ found journal_path → Tells (Some g) l (IsBack n)
          → (es : List PlainEntry) × IsUndoable found es × (n ≡ length es) × Tells (Some found) l (Undone es)
      done_as n g None same at taken = absurd taken
      done_as n g (Some h) same at (es, count, taken) =
          (es, undoable_same g found same at es taken.undoable, count, λ q java. taken.files q java ∙ with_sides_at (old_sides es) g found q (same q java))

      after_recovery : (here : Option Image) → Recovers told here → (status : Status) → Undoes here left outcomes before after status → IsUndoAnswer found left status ⊎ IsFailure before after fewer more status
      after_recovery here recovers (Done (Changed n)) a =
          let there = as_found told here is recovers in
          inl (done_as n there.0 left there.2 there.3 (subst (λ (o : Option Image). Tells o left (IsBack n)) there.1 a.0))
      after_recovery here recovers (Done other) a = absurd a
      after_recovery here recovers (NoUndo reason path) a =
          let there = as_found told here is recovers in
          inl (
            refused_same there.0 found there.2 there.3 reason path (subst (λ (o : Option Image). ForTold o (λ i. IsNotUndoable i reason path)) there.1 a.1),
            subst (λ (o : Option Image). Tells (Some found) o (λ before_it after_it. SameFiles after_it before_it)) (sym (a.0 ∙ there.1)) there.2,
          )
      after_recovery here recovers (StoreFault Reading) a = inr a.1
      after_recovery here recovers (StoreFault Writing) a = inr a.1
      after_recovery here recovers (StoreFault other) a = absurd a
      after_recovery here recovers OutOfMemory a = inr tt
      after_recovery here recovers other a = absurd a

      each : (status : Status) → AnswersUndo words told left outcomes before after status → IsUndoAnswer found left status ⊎ IsFailure before after fewer more status
      each status (inr a) = after_recovery a.0 a.1 status a.2
      each BadJournal (inl a) = absurd (no_bad_journal files found told is restored a.2)
      each (StoreFault Recovering) (inl a) = inr a.2
      each (StoreFault other) (inl a) = absurd a.1
      each OutOfMemory (inl a) = inr tt
      each other (inl a) = absurd a.1

      pub exact : (result : Status) → Reported words SaidUndo result old new fewer more → IsUndoAnswer found left result ⊎ IsFailure before after fewer more result
      exact result (status, said, inl done) = subst (λ (x : Status). IsUndoAnswer found left x ⊎ IsFailure before after fewer more x) (sym done.0) (each status said.0)
      exact result (status, said, inr failed) = inr (subst (IsFailure before after fewer more) (sym failed.0) failed.2)
