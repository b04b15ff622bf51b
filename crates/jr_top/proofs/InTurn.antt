-- A change, and an undo after it.
use Rattle.std.proofs.Common.{◌≡◌, ◌⊎◌, inl, inr, ⊎_elim, ℕ, zero, suc, List, [], ◌∷◌, Option, Some, None, refl, sym, ap, subst, ◌∙◌}
use Rattle.std.proofs.lemmas.Option.{same_Some, none-some}
use Rattle.jr_base.specs.declared.request.Request.{Request}
use Rattle.jr_commit.specs.Restoring.{gate_path, Restored, SameFiles}
use Rattle.jr_request.specs.Words.{command_of}
use Rattle.jr_request.specs.declared.command.Command.{Command}
use Rattle.jr_request.specs.declared.command.Command.TheVariants.{Batch, Undo}
use Rattle.jr_store.specs.Image.{Image, Tells}
use Rattle.jr_top.specs.Answers.{Answers, LeavesChange, reported, OutcomeOf, Outcome, IsFailure}
use Rattle.jr_top.specs.Batches.{AsksBatch, AnswersBatch}
use Rattle.jr_top.specs.Changing.{IsCommitted}
use Rattle.jr_top.specs.Checking.{IsReading, AsksReading, AnswersReading}
use Rattle.jr_top.specs.Crash.{IsNoFault, Survives}
use Rattle.jr_top.specs.Engine.{AsksOne, AsksAll, IsReplaced, Plans, replaced, unchanged, refused, oversized, not_read, not_written, no_memory, AnswersPlanned}
use Rattle.jr_top.specs.Line.{line_of}
use Rattle.jr_top.specs.Recovering.{Recovers}
use Rattle.jr_top.specs.Undoing.{AsksUndo, IsBack, AnswersUndo, IsUndoAnswer, IsKept, GivesBack}
use Rattle.jr_top.specs.declared.status.Report.TheVariants.{Changed}
use Rattle.jr_top.specs.declared.status.Status.{Status}
use Rattle.jr_top.specs.declared.status.Status.TheVariants.{Done, StoreFault, SinkFault, OutOfMemory}
use Rattle.jr_top.proofs.EngineAnswers.{IsRefusal, engine_refusal}
use Rattle.jr_top.proofs.Outcomes.{found_files}
use Rattle.jr_top.proofs.PlainAnswers.{batch_or_not, reading_or_not, undo_or_not}
use Rattle.jr_top.proofs.Returns.{renamed_back, replaced_back, undone_back}

-- ---- which command is asked for

one_or_not : (one : Command) → ((command : Command) → (command ≡ one) ⊎ (command ≡ one → ⊥)) → (o : Option Command) → (o ≡ Some one) ⊎ (o ≡ Some one → ⊥)
one_or_not one decide None = inr (λ is. none-some one is)
one_or_not one decide (Some command) = ⊎_elim (λ is. inl (ap Some is)) (λ other. inr (λ is. other (same_Some command one is))) (decide command)

reads_or_not : (o : Option Command) → ((command : Command) × (o ≡ Some command) × IsReading command) ⊎ ((command : Command) × (o ≡ Some command) × IsReading command → ⊥)
reads_or_not None = inr (λ asks. none-some asks.0 asks.1)
reads_or_not (Some command) = ⊎_elim (λ is. inl (command, refl, is)) (λ other. inr (λ asks. other (subst IsReading (sym (same_Some command asks.0 asks.1)) asks.2))) (reading_or_not command)

same_count : (m n : ℕ) → Done (Changed m) ≡ Done (Changed n) → m ≡ n
same_count m n is = cc

-- the gate is closed, and an undo gives back the files of before
pub record LeavesUndo (count : ℕ) (old new : Image) : Type 0 where
  pub gate : new gate_path ≡ None
  pub back : (later : Image) (left : Option Image) (said : Status) → IsKept new later → IsUndoAnswer later left said → GivesBack count old left said

-- ---- the first command has changed files

module _ (words : List (List ℕ)) (told left : Option Image) (kept outcomes : Image → Type 0) (before after n : ℕ) where
  abbrev Many : Status
  Many = Done (Changed (suc n))

  -- what the first command leaves
  abbrev pub Leaves : Type 0
  Leaves = (here : Option Image) × Recovers told here × Tells here left (LeavesUndo (suc n))

  tell_each : (R : Image → Image → Type 0) → ((f g : Image) → R f g → LeavesUndo (suc n) f g) → (t l : Option Image) → Tells t l R → Tells t l (LeavesUndo (suc n))
  tell_each R each None None tells = tt
  tell_each R each None (Some g) tells = tells
  tell_each R each (Some f) None tells = tells
  tell_each R each (Some f) (Some g) tells = each f g tells

  by_small : (m : ℕ) → suc m ≡ suc n → (here : Option Image) → LeavesChange words here left outcomes (suc m) → Tells here left (LeavesUndo (suc n))
  by_small zero is here ((file, at, name, asked, short, tells), only) = tell_each (IsCommitted file at name)
      (λ f g committed. record { gate = committed.gate; back = λ later last said same answer. subst (λ (k : ℕ). GivesBack k f last said) is (renamed_back file at name f g later last said committed same answer) }) here left tells
  by_small (suc m) is here never = absurd never

  by_plans : (requests : List Request) (paths : List (List ℕ)) (here : Option Image) → Plans requests paths here left outcomes before after Many → Tells here left (LeavesUndo (suc n))
  by_plans requests paths here (replaced {n = m} is tells only) = tell_each (IsReplaced requests (suc m))
      (λ f g made. record {
        gate = made.gate;
        back = λ later last said same answer. subst (λ (k : ℕ). GivesBack k f last said) (same_count (suc m) (suc n) (sym is)) (replaced_back requests (suc m) f g later last said made same answer);
      }) here left tells
  by_plans requests paths here (unchanged is same none) = cc
  by_plans requests paths here (refused why is named same because) = absurd (subst IsRefusal (sym is) (engine_refusal why.request why.fault))
  by_plans requests paths here (oversized is same large) = cc
  by_plans requests paths here (not_read is same rose) = cc
  by_plans requests paths here (not_written is tells rose) = cc
  by_plans requests paths here (no_memory is same) = cc

  by_undo : (here : Option Image) → Tells here left (IsBack (suc n)) → Tells here left (LeavesUndo (suc n))
  by_undo here tells = tell_each (IsBack (suc n))
      (λ f g back. record {
        gate = back.2.gate;
        back = λ later last said same answer. subst (λ (k : ℕ). GivesBack k f last said) (sym back.1) (undone_back back.0 f g later last said back.2 same answer);
      }) here left tells

  module _ (heard : Option (List ℕ)) (quiet loud : ℕ) (old new : Option (List ℕ)) (fewer more : ℕ) (result : Status) (is : result ≡ Many) where
    said_of : (line : Status → List ℕ) (P : Status → Type 0) → OutcomeOf line P old new fewer more result → P Many
    said_of line P outcome = (subst (OutcomeOf line P old new fewer more) is outcome).0

    abbrev Planned : (Option Image → List Request → Type 0) → List (List ℕ) → Status → Type 0
    Planned Asks paths status = AnswersPlanned words Asks paths told left outcomes before after status × Survives words told kept outcomes status

    by_planned : (Asks : Option Image → List Request → Type 0) → (paths : List (List ℕ)) × OutcomeOf (line_of paths) (Planned Asks paths) old new fewer more result → Leaves
    by_planned Asks (paths, outcome) = go (said_of (line_of paths) (Planned Asks paths) outcome)
      where
        go : Planned Asks paths Many → Leaves
        go ((here, asks, recovers, (requests, asked, plans)), survives) = (here, recovers, by_plans requests paths here plans)

    by_words : Answers words told left outcomes before after Many × Survives words told kept outcomes Many → Leaves
    by_words ((here, asks, recovers, answer), survives) = (here, recovers, by_small n refl here answer)

    by_taken : AnswersUndo words told left outcomes before after Many × Survives words told kept outcomes Many → Leaves
    by_taken (inl never, survives) = absurd never.1
    by_taken (inr (here, recovers, answer), survives) = (here, recovers, by_undo here answer.0)

    -- what is so of each answer is so of this one
    pub leaves : ((AsksBatch words → ⊥) → (AsksReading words → ⊥) → (AsksUndo words → ⊥)
        → Outcome words (λ status. Answers words told left outcomes before after status × Survives words told kept outcomes status) old new fewer more result
        ⊎ ((paths : List (List ℕ)) × OutcomeOf (line_of paths) (Planned (AsksOne words) paths) old new fewer more result))
        → (AsksBatch words → Outcome words (λ status. AnswersBatch words told left outcomes before after heard quiet loud status × Survives words told kept outcomes status) old new fewer more result
        ⊎ ((paths : List (List ℕ)) × OutcomeOf (line_of paths) (Planned (AsksAll words heard) paths) old new fewer more result))
        → (AsksReading words → (paths : List (List ℕ)) × OutcomeOf (line_of paths) (λ status. AnswersReading words paths told left outcomes before after status × Survives words told kept outcomes status) old new fewer more result)
        → (AsksUndo words → Outcome words (λ status. AnswersUndo words told left outcomes before after status × Survives words told kept outcomes status) old new fewer more result)
        → Leaves
    leaves answer batch reading undo = ⊎_elim
        (λ asks. ⊎_elim
        (λ said. absurd (said_of (reported words) (λ status. AnswersBatch words told left outcomes before after heard quiet loud status × Survives words told kept outcomes status) said).0.1)
        (by_planned (AsksAll words heard)) (batch asks))
        (λ no_batch. ⊎_elim
        (λ asks. absurd (said_of (line_of (reading asks).0) (λ status. AnswersReading words (reading asks).0 told left outcomes before after status × Survives words told kept outcomes status) (reading asks).1).0.1)
        (λ no_reading. ⊎_elim
        (λ asks. by_taken (said_of (reported words) (λ status. AnswersUndo words told left outcomes before after status × Survives words told kept outcomes status) (undo asks)))
        (λ no_undo. ⊎_elim
        (λ said. by_words (said_of (reported words) (λ status. Answers words told left outcomes before after status × Survives words told kept outcomes status) said))
        (by_planned (AsksOne words)) (answer no_batch no_reading no_undo))
        (one_or_not Undo undo_or_not (command_of words)))
        (reads_or_not (command_of words)))
        (one_or_not Batch batch_or_not (command_of words))

-- ---- the second is an undo

short_of_memory : (before after fewer more : ℕ) (said : Status) → IsFailure before after fewer more said → IsNoFault said → said ≡ OutOfMemory
short_of_memory before after fewer more OutOfMemory failed none = refl
short_of_memory before after fewer more (StoreFault phase) failed none = absurd none
short_of_memory before after fewer more SinkFault failed none = absurd none
short_of_memory before after fewer more other failed none = absurd failed

gives_same : (count : ℕ) (g found : Image) (last : Option Image) (said : Status) → SameFiles g found → GivesBack count g last said → GivesBack count found last said
gives_same count g found None said same (is, never) = absurd never
gives_same count g found (Some l) said same (is, files) = (is, λ q java. files q java ∙ same q java)

module _ (files found : Image) (n : ℕ) (told left last : Option Image) (before after fewer more : ℕ) (said : Status) (told_is : told ≡ Some files) (restored : Restored files found) where
  pub undone : (here : Option Image) → Recovers told here → Tells here left (LeavesUndo (suc n))
      → ((m r : Image) → left ≡ Some m → Restored m r → IsUndoAnswer r last said ⊎ IsFailure before after fewer more said) → IsNoFault said → GivesBack (suc n) found last said ⊎ (said ≡ OutOfMemory)
  undone here recovers tells second none =
      let there = found_files files found told here told_is restored recovers in
      go there.0 there.2 left refl (subst (λ (o : Option Image). Tells o left (LeavesUndo (suc n))) there.1 tells)
    where
      go : (g : Image) → SameFiles g found → (l : Option Image) → left ≡ l → Tells (Some g) l (LeavesUndo (suc n)) → GivesBack (suc n) found last said ⊎ (said ≡ OutOfMemory)
      go g same None left_is never = absurd never
      go g same (Some m) left_is leaves = ⊎_elim
          (λ answer. inl (gives_same (suc n) g found last said same (leaves.back m last said (λ q java. refl, refl) answer)))
          (λ failed. inr (short_of_memory before after fewer more said failed none))
          (second m m left_is (inl (λ opened. none-some (49 ∷ []) (sym leaves.gate ∙ opened), refl)))
