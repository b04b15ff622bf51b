-- From what a command says that names no file and changes none, to its answer.
use Rattle.std.proofs.Common.{◌≡◌, ◌⊎◌, inl, inr, ℕ, List, [], Option, Some, None, refl, sym, ap, subst, ◌∙◌}
use Rattle.std.proofs.lemmas.Option.{same_Some, none-some}
use Rattle.std.specs.Io.KnownBytes.{Appends}
use Rattle.jr_commit.specs.Restoring.{IsOpen, KeepsOthers, Restored, RestoresTo, SameFiles, StartsRecover}
use Rattle.jr_commit.proofs.Phases.{shut_image}
use Rattle.jr_request.specs.Words.{command_of}
use Rattle.jr_request.specs.declared.command.Command.{Command}
use Rattle.jr_request.specs.declared.command.Command.TheVariants.{Batch, Check, Undo, Run, Refs, Subtypes, Callers}
use Rattle.jr_store.specs.Image.{Image, Tells, Rose}
use Rattle.jr_top.specs.Answers.{Reports, IsReported, reported, OutcomeOf, IsFailure}
use Rattle.jr_top.specs.Batches.{AsksBatch}
use Rattle.jr_top.specs.Checking.{IsReading, AsksReading}
use Rattle.jr_top.specs.Crash.{Survives}
use Rattle.jr_top.specs.Line.{line_of}
use Rattle.jr_top.specs.Performing.{ReportedOf}
use Rattle.jr_top.specs.Plain.{AnswersPlain}
use Rattle.jr_top.specs.Recovering.{AsksRecovery, Recovers}
use Rattle.jr_top.specs.Renaming.{files_named}
use Rattle.jr_top.specs.Undoing.{AsksUndo}
use Rattle.jr_top.specs.declared.status.Phase.TheVariants.{Recovering}
use Rattle.jr_top.specs.declared.status.Status.{Status}
use Rattle.jr_top.specs.declared.status.Status.TheVariants.{StoreFault, SinkFault, OutOfMemory, BadJournal}
use Rattle.jr_top.proofs.Carried.{here_by, opened}

-- the words ask for a command that needs the files, and its line shows these paths
pub record IsPlain (words paths : List (List ℕ)) (line : Status → List ℕ) : Type 0 where
  pub recovery : AsksRecovery words
  pub shown : (status : Status) → line_of paths status ≡ line status

-- a command that names no file
pub unnamed : (words : List (List ℕ)) → AsksRecovery words → files_named (command_of words) ≡ [] → IsPlain words [] (reported words)
unnamed words asks none = record { recovery = asks; shown = λ status. ap (λ (paths : List (List ℕ)). line_of paths status) (sym none) }

-- what stands behind the first of a pair
pub behind : {A : Type 0} {B : A → Type 0} (p : (a : A) × B a) → B p.0
behind p = p.1

-- ---- which command is asked for

abbrev IsNoBatch : Command → Type 0
IsNoBatch Batch = ⊥
IsNoBatch other = Unit {0}

abbrev IsNoUndo : Command → Type 0
IsNoUndo Undo = ⊥
IsNoUndo other = Unit {0}

pub batch_or_not : (command : Command) → (command ≡ Batch) ⊎ (command ≡ Batch → ⊥)
batch_or_not Batch = inl refl
batch_or_not other = inr (λ same. subst IsNoBatch same tt)

pub reading_or_not : (command : Command) → IsReading command ⊎ (IsReading command → ⊥)
reading_or_not Check = inl tt
reading_or_not (Run class steps) = inl tt
reading_or_not (Refs file at) = inl tt
reading_or_not (Subtypes file at) = inl tt
reading_or_not (Callers file at) = inl tt
reading_or_not other = inr (λ reads. reads)

pub undo_or_not : (command : Command) → (command ≡ Undo) ⊎ (command ≡ Undo → ⊥)
undo_or_not Undo = inl refl
undo_or_not other = inr (λ same. subst IsNoUndo same tt)

by_command : (one : Command) → ((command : Command) → (command ≡ one) ⊎ (command ≡ one → ⊥)) → (words : List (List ℕ)) (P : Type 0) → AsksRecovery words
    → (command_of words ≡ Some one → P) → ((command_of words ≡ Some one → ⊥) → P) → P
by_command one decide words P (command, is, needs) here other =
    elim (decide command) [ inl same ↦ here (is ∙ ap Some same) | inr differs ↦ other (λ asks. differs (same_Some _ _ (sym is ∙ asks))) ]

pub by_batch : (words : List (List ℕ)) (P : Type 0) → AsksRecovery words → (AsksBatch words → P) → ((AsksBatch words → ⊥) → P) → P
by_batch = by_command Batch batch_or_not

pub by_reading : (words : List (List ℕ)) (P : Type 0) → AsksRecovery words → (AsksReading words → P) → ((AsksReading words → ⊥) → P) → P
by_reading words P (command, is, needs) here other =
    elim (reading_or_not command) [ inl reads ↦ here (command, is, reads) | inr none ↦ other (λ asks. none (subst IsReading (same_Some _ _ (sym asks.1 ∙ is)) asks.2)) ]

pub by_undo : (words : List (List ℕ)) (P : Type 0) → AsksRecovery words → (AsksUndo words → P) → ((AsksUndo words → ⊥) → P) → P
by_undo = by_command Undo undo_or_not

-- ---- what is reported

module _ (words : List (List ℕ)) {paths : List (List ℕ)} {line : Status → List ℕ} (asks : IsPlain words paths line) where
  pub plain : (status : Status) → line_of paths status ≡ line status
  plain = asks.shown

  -- what is so of a status, and of want of memory, is so of what is reported
  pub reports_of : (P : Status → Type 0) (status result : Status) (old new : Option (List ℕ)) (fewer more : ℕ) → P status → P OutOfMemory → IsReported status paths result old new fewer more
      → ReportedOf line P result old new fewer more
  reports_of P status result old new fewer more here memory (final, inl final_is, r) = (
    status,
    here,
    subst (λ (l : List ℕ). Reports status l result old new fewer more) (plain status) (subst (λ (x : Status). Reports x (line_of paths x) result old new fewer more) final_is r),
  )
  reports_of P status result old new fewer more here memory (final, inr final_is, r) = (
    OutOfMemory,
    memory,
    subst (λ (l : List ℕ). Reports OutOfMemory l result old new fewer more) (plain OutOfMemory) (subst (λ (x : Status). Reports x (line_of paths x) result old new fewer more) final_is r),
  )

  module _ (told left : Option Image) (kept outcomes : Image → Type 0) (before after : ℕ) (Says : Status → Type 0) where
    abbrev pub Said : Status → Type 0
    Said status = AnswersPlain words told left outcomes before after Says status × Survives words told kept outcomes status

    -- memory is wanting before recovery writes
    pub no_memory : (result : Status) (old new : Option (List ℕ)) (fewer more : ℕ) → left ≡ told → ((c : Image) → outcomes c → kept c) → IsReported OutOfMemory paths result old new fewer more
        → ReportedOf line Said result old new fewer more
    no_memory result old new fewer more same fewer_left r =
        let said : Said OutOfMemory = (inl same, λ f found told_is restored start c l. here_by f found kept start restored c (fewer_left c l)) in
        reports_of Said OutOfMemory result old new fewer more said said r

    pub journal : (result : Status) (old new : Option (List ℕ)) (fewer more : ℕ) → left ≡ told → ((c : Image) → outcomes c → kept c)
        → ((f : Image) → told ≡ Some f → (r : Image) → Restored f r → ⊥) → IsReported BadJournal paths result old new fewer more → ReportedOf line Said result old new fewer more
    journal result old new fewer more same fewer_left none r =
        let survives = λ (f found : Image) (told_is : told ≡ Some f) (restored : Restored f found) (start : StartsRecover f kept) (c : Image) (l : outcomes c). here_by f found kept start restored c (fewer_left c l) in
        reports_of Said BadJournal result old new fewer more ((same, asks.recovery, opened told none), survives) (inl same, survives) r

    pub failed : (result : Status) (old new : Option (List ℕ)) (fewer more : ℕ) → Tells told left KeepsOthers → Rose before after
        → ((f r : Image) → told ≡ Some f → Restored f r → StartsRecover f kept → (c : Image) → outcomes c → RestoresTo c r)
        → Reports (StoreFault Recovering) (line_of paths (StoreFault Recovering)) result old new fewer more → ReportedOf line Said result old new fewer more
    failed result old new fewer more others rose stands r = (
      StoreFault Recovering,
      ((others, asks.recovery, rose), λ f r told_is restored start c l. inl (stands f r told_is restored start c l)),
      subst (λ (l : List ℕ). Reports (StoreFault Recovering) l result old new fewer more) (plain (StoreFault Recovering)) r,
    )

    -- what a crash leaves after recovery stands for the files found
    pub stands : ((f r : Image) → told ≡ Some f → Restored f r → StartsRecover f kept → (c : Image) → outcomes c → (IsOpen c → ⊥) × SameFiles c r)
        → (f found : Image) → told ≡ Some f → Restored f found → StartsRecover f kept → (c : Image) → outcomes c → RestoresTo c found
    stands closed f found told_is restored start c l = let shut = closed f found told_is restored start c l in shut_image c found shut.0 shut.1

    -- the answer after recovery
    pub said_so : Recovers told left → ((f r : Image) → told ≡ Some f → Restored f r → StartsRecover f kept → (c : Image) → outcomes c → (IsOpen c → ⊥) × SameFiles c r)
        → (status result : Status) (old new : Option (List ℕ)) (fewer more : ℕ) → Said status → IsReported status paths result old new fewer more → ReportedOf line Said result old new fewer more
    said_so recovered closed status result old new fewer more said r = reports_of Said status result old new fewer more said (inr recovered, stands closed) r

    -- ---- the status that is answered

    module _ (old new : Option (List ℕ)) (fewer more : ℕ) where
      written : (Says SinkFault → ⊥) → (status : Status) → Said status → Appends old new (line status) → OutcomeOf line Said old new fewer more status
      written silent SinkFault said appends = absurd (silent said.0.1)
      written silent other said appends = (said, appends)

      pub outcome : (Says SinkFault → ⊥) → (result : Status) → ReportedOf line Said result old new fewer more → OutcomeOf line Said old new fewer more result
      outcome silent result (status, said, inl done) = subst (OutcomeOf line Said old new fewer more) (sym done.0) (written silent status said done.1)
      outcome silent result (status, said, inr failed) = subst (OutcomeOf line Said old new fewer more) (sym failed.0) (status, said, failed.1, failed.2)

      -- no files stand behind the journal
      module _ (files : Image) (is : told ≡ Some files) (none : (restored : Image) → Restored files restored → ⊥) where
        never : (t u : Option Image) → t ≡ Some files → Recovers t u → ⊥
        never None u t_is recovers = none-some files t_is
        never (Some f) None t_is recovers = recovers
        never (Some f) (Some g) t_is recovers = none recovers.stood.0 (subst (λ (i : Image). Restored i recovers.stood.0) (same_Some f files t_is) recovers.stood.1)

        each : (status : Status) → AnswersPlain words told left outcomes before after Says status → (status ≡ BadJournal) ⊎ IsFailure before after fewer more status
        each BadJournal a = inl refl
        each (StoreFault Recovering) a = inr a.2
        each (StoreFault other) a = absurd (never told left is a.0)
        each OutOfMemory a = inr tt
        each other a = absurd (never told left is a.0)

        pub unreadable : (result : Status) → ReportedOf line Said result old new fewer more → (result ≡ BadJournal) ⊎ IsFailure before after fewer more result
        unreadable result (status, said, inl done) = subst (λ (x : Status). (x ≡ BadJournal) ⊎ IsFailure before after fewer more x) (sym done.0) (each status said.0)
        unreadable result (status, said, inr failed) = inr (subst (IsFailure before after fewer more) (sym failed.0) failed.2)
