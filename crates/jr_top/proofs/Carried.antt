-- From what recovery found to the whole call.
use Rattle.std.proofs.Common.{◌≡◌, inl, inr, ⊎_elim, ℕ, ◌≤◌, List, [], Option, Some, None, refl, sym, ap, subst, ◌∙◌, arith}
use Rattle.std.proofs.lemmas.Bool.{false≢true}
use Rattle.std.proofs.lemmas.Option.{same_Some, none-some}
use Rattle.jr_commit.specs.Restoring.{journal_path, IsOpen, Restored, RestoresTo, SameFiles, StartsRecover, KeepsOthers}
use Rattle.jr_commit.specs.Journal.{old_sides}
use Rattle.jr_commit.specs.Recovered.{Answers as AnswersRecovery}
use Rattle.jr_commit.specs.SidesAt.{paths_of, with_sides}
use Rattle.jr_commit.specs.declared.recovery.Recovered.{Recovered}
use Rattle.jr_commit.specs.declared.recovery.Recovered.TheVariants.{Clean, RolledBack}
use Rattle.jr_commit.proofs.Moments.{started, goes_further}
use Rattle.jr_commit.proofs.Olds.{java_of}
use Rattle.jr_commit.proofs.Phases.{gate_journal, journal_apart, off_all, open_or_not}
use Rattle.jr_commit.proofs.Putting.{with_sides_off}
use Rattle.jr_commit.proofs.Back.{here}
use Rattle.jr_request.specs.Words.{command_of}
use Rattle.jr_request.specs.declared.command.Command.{Command}
use Rattle.jr_request.specs.declared.command.Command.TheVariants.{Demo}
use Rattle.jr_store.specs.Image.{Image, Tells, Rose, LeavesOnly}
use Rattle.jr_base.specs.declared.limits.Size.TheVariants.{File, Path}
use Rattle.jr_top.specs.declared.status.Report.TheVariants.{Changed, Printed}
use Rattle.jr_top.specs.Answers.{AnswersFound, OnFound, Answers, IsDemonstration, IsDemonstrated, Reports, IsReported, reported}
use Rattle.jr_top.specs.Crash.{StandsForEither, StandsAfter, IsSettled, Survives, SurvivesSettled}
use Rattle.jr_top.specs.Line.{line_of}
use Rattle.jr_top.specs.Performing.{Reported}
use Rattle.jr_top.specs.Recovering.{NeedsFiles, AsksRecovery, Recovers}
use Rattle.jr_top.specs.Renaming.{files_named, ForTold}
use Rattle.jr_top.specs.declared.status.Phase.TheVariants.{Recovering, Reading, Writing}
use Rattle.jr_top.specs.declared.status.Status.{Status}
use Rattle.jr_top.specs.declared.status.Status.TheVariants.{Done, NoSpelling, BrokenRule, StoreFault, TooLarge, OutOfMemory, BadJournal, Differs}
use Rattle.jr_top.proofs.Outcomes.{rose_earlier}

-- what a crash leaves before the call stands for the files found
pub here_by : (f r : Image) (outcomes : Image → Type 0) → StartsRecover f outcomes → Restored f r → (c : Image) → outcomes c → RestoresTo c r
here_by f r outcomes start restored = here (λ (s : ℕ). Some f) (λ (s : ℕ). outcomes) (λ (s : ℕ). 0) (λ (s t : ℕ). outcomes) f r 0 refl restored start (λ c l. l)

-- a weaker property of what a crash leaves
pub weaker : {S : Type 0} (moment : S → ℕ) (left_since : S → ℕ → Image → Type 0) (old new : S) (P Q : Image → Type 0) → LeavesOnly moment left_since old new Q → ((c : Image) → Q c → P c) → LeavesOnly moment left_since old new P
weaker moment left_since old new P Q run weak = record {
  later = run.later;
  each = λ c left. weak c (run.each c left);
  before = λ t c le left. ⊎_elim (λ was. inl was) (λ now. inr (weak c now)) (run.before t c le left);
}

-- what is answered to a later part of the call is answered to the whole
pub earlier : (words : List (List ℕ)) (found left : Option Image) (outcomes : Image → Type 0) (before middle after : ℕ) (status : Status) → before ≤ middle → AnswersFound words found left outcomes middle after status → AnswersFound words found left outcomes before after status
earlier words found left outcomes before middle after (StoreFault Reading) later a = (a.0, a.1, rose_earlier before middle after later a.2)
earlier words found left outcomes before middle after (StoreFault Writing) later a = (a.0, rose_earlier before middle after later a.1)
earlier words found left outcomes before middle after (StoreFault other) later a = absurd a
earlier words found left outcomes before middle after (Done (Changed files)) later a = a
earlier words found left outcomes before middle after (Done other) later a = absurd a
earlier words found left outcomes before middle after (TooLarge Path request) later a = a
earlier words found left outcomes before middle after (TooLarge File request) later a = a
earlier words found left outcomes before middle after (TooLarge other request) later a = absurd a
earlier words found left outcomes before middle after other later a = a

-- an answer on the files found is one of the call
pub on_found : (words : List (List ℕ)) (told left : Option Image) (outcomes : Image → Type 0) (before after : ℕ) (status : Status) → OnFound words told left outcomes before after status → Answers words told left outcomes before after status
on_found words told left outcomes before after OutOfMemory on = inr on
on_found words told left outcomes before after (StoreFault Reading) on = on
on_found words told left outcomes before after (StoreFault Writing) on = on
on_found words told left outcomes before after (StoreFault other) on = absurd on.3
on_found words told left outcomes before after (Done (Changed files)) on = on
on_found words told left outcomes before after (Done other) on = absurd on.3
on_found words told left outcomes before after (NoSpelling request occ place lock) on = on
on_found words told left outcomes before after (BrokenRule request rule place) on = on
on_found words told left outcomes before after (TooLarge what request) on = on
on_found words told left outcomes before after other on = absurd on.3

-- recovery answers well only where the image stood for files
stood : (answer : Recovered) (f : Image) → AnswersRecovery answer (Some f) → (r : Image) × Restored f r
stood Clean f shut = (f, inl (shut, refl))
stood (RolledBack n) f (opened, bytes, version, entries, journal, is, counted) =
    (with_sides (old_sides entries) f, inr (opened, bytes, old_sides entries, journal, record { version = version; entries = entries; journal = is; sides = refl }, refl))

pub recovers : (answer : Recovered) (told found : Option Image) → AnswersRecovery answer told → Tells told found (λ f g. (IsOpen g → ⊥) × ((r : Image) → Restored f r → SameFiles g r)) → Tells told found KeepsOthers → Recovers told found
recovers answer None None answers done others = tt
recovers answer None (Some g) answers done others = done
recovers answer (Some f) None answers done others = done
recovers answer (Some f) (Some g) answers done others = record { stood = stood answer f answers; shut = done.0; files = done.1; others = others }

-- recovery leaves the journal
pub journal_kept : (f g : Image) → KeepsOthers f g → g journal_path ≡ f journal_path
journal_kept f g others = others journal_path (λ java. false≢true (sym journal_apart ∙ java)) (λ is. gate_journal (sym is))

-- and so does what an image stands for
pub journal_restored : (f r : Image) → Restored f r → r journal_path ≡ f journal_path
journal_restored f r (inl shut) = ap (λ (i : Image). i journal_path) shut.1
journal_restored f r (inr way) =
    ap (λ (i : Image). i journal_path) way.5 ∙ with_sides_off way.2 f journal_path (off_all (paths_of way.2) journal_path (java_of way.1 way.2 way.4) journal_apart)

-- what is told after recovery is settled
pub settled : (told found : Option Image) (outcomes : Image → Type 0) (f g r : Image) → Recovers told found → told ≡ Some f → found ≡ Some g → Restored f r → ((c : Image) → outcomes c → (IsOpen c → ⊥) × SameFiles c r) → IsSettled g r outcomes
settled None found outcomes f g r recovered told_is found_is restored left = absurd (none-some f told_is)
settled (Some h) None outcomes f g r recovered told_is found_is restored left = absurd (none-some g found_is)
settled (Some h) (Some k) outcomes f g r recovered told_is found_is restored left = record {
  shut = subst (λ (i : Image). IsOpen i → ⊥) (same_Some k g found_is) recovered.shut;
  same = subst (λ (i : Image). SameFiles i r) (same_Some k g found_is) (recovered.files r (subst (λ (i : Image). Restored i r) (sym (same_Some h f told_is)) restored));
  journal = ap (λ (i : Image). i journal_path) (sym (same_Some k g found_is)) ∙ journal_kept h k recovered.others ∙ ap (λ (i : Image). i journal_path) (same_Some h f told_is) ∙ sym (journal_restored f r restored);
  left = left;
}

pub still_told : (told found : Option Image) (f : Image) → Recovers told found → told ≡ Some f → (g : Image) × (found ≡ Some g)
still_told None found f recovered is = absurd (none-some f is)
still_told (Some h) None f recovered is = absurd recovered
still_told (Some h) (Some g) f recovered is = (g, refl)

module _ (words : List (List ℕ)) (command : Command) (is : command_of words ≡ Some command) (needs : NeedsFiles command) (told found left : Option Image) (kept settled_outcomes outcomes : Image → Type 0) (before middle after : ℕ)
    (later : before ≤ middle) (recovered : Recovers told found)
    (closed : (f r : Image) → told ≡ Some f → Restored f r → StartsRecover f kept → (c : Image) → settled_outcomes c → (IsOpen c → ⊥) × SameFiles c r) where
  -- the answers after recovery are answers of the call
  pub carried : (result : Status) (old new : Option (List ℕ)) (fewer more : ℕ) →
      Reported words (λ status. AnswersFound words found left outcomes middle after status × SurvivesSettled words found settled_outcomes outcomes status) result old new fewer more →
      Reported words (λ status. Answers words told left outcomes before after status × Survives words told kept outcomes status) result old new fewer more
  carried result old new fewer more (status, (answer, survives), reports) = (
    status,
    (
      on_found words told left outcomes before after status (found, (command, is, needs), recovered, earlier words found left outcomes before middle after status later answer),
      λ f r told_is restored start c l.
          let g = still_told told found f recovered told_is in
          survives g.0 r g.1 (settled told found settled_outcomes f g.0 r recovered told_is g.1 restored (closed f r told_is restored start)) c l,
    ),
    reports,
  )

module _ (words : List (List ℕ)) (told left : Option Image) (kept outcomes : Image → Type 0) (before after : ℕ) where
  abbrev Said : Status → Type 0
  Said status = Answers words told left outcomes before after status × Survives words told kept outcomes status

  -- an answer that leaves all as it was
  pub early : (status result : Status) (old new : Option (List ℕ)) (fewer more : ℕ) → left ≡ told → ((c : Image) → outcomes c → kept c) →
      Answers words told left outcomes before after status → ((found image : Image) → RestoresTo image found → StandsAfter words found status image) → line_of [] status ≡ reported words status →
      IsReported status [] result old new fewer more → Reported words Said result old new fewer more
  early status result old new fewer more same fewer_left answer stands line (final, inl final_is, r) = (
    status,
    (answer, λ f found told_is restored start c l. stands found c (here_by f found kept start restored c (fewer_left c l))),
    subst (λ (l : List ℕ). Reports status l result old new fewer more) line (subst (λ (x : Status). Reports x (line_of [] x) result old new fewer more) final_is r),
  )
  early status result old new fewer more same fewer_left answer stands line (final, inr final_is, r) = (
    OutOfMemory,
    (inl same, λ f found told_is restored start c l. here_by f found kept start restored c (fewer_left c l)),
    subst (λ (x : Status). Reports x (line_of [] x) result old new fewer more) final_is r,
  )

pub all_run : {S : Type 0} (moment : S → ℕ) (left_since : S → ℕ → Image → Type 0) (words : List (List ℕ)) (r : Image) (s0 s1 s2 : S) → LeavesOnly moment left_since s0 s1 (λ c. RestoresTo c r) → LeavesOnly moment left_since s1 s2 (StandsForEither words r) → LeavesOnly moment left_since s0 s2 (StandsForEither words r)
all_run moment left_since words r s0 s1 s2 first second =
    goes_further moment left_since s0 s1 s2 (StandsForEither words r) (StandsForEither words r) (weaker moment left_since s0 s1 (StandsForEither words r) (λ c. RestoresTo c r) first (λ c l. inl l)) second (λ c l. l)

-- without a call of the store
pub stays_here : {S : Type 0} (may_leave : S → Image → Type 0) (moment : S → ℕ) (left_since : S → ℕ → Image → Type 0) (words : List (List ℕ)) (f r : Image) (s : S) → ((c : Image) → left_since s (moment s) c → may_leave s c) → Restored f r → StartsRecover f (may_leave s) → LeavesOnly moment left_since s s (StandsForEither words r)
stays_here may_leave moment left_since words f r s now restored start = started moment left_since s (StandsForEither words r) (λ c l. inl (here_by f r (may_leave s) start restored c (now c l)))

-- the words ask for no other command
pub no_recovery : (words : List (List ℕ)) (command : Command) → command_of words ≡ Some command → (NeedsFiles command → ⊥) → AsksRecovery words → ⊥
no_recovery words command is never (other, other_is, needs) = never (subst NeedsFiles (same_Some other command (sym other_is ∙ is)) needs)

-- a closed gate stands for the files themselves
pub opened : (told : Option Image) → ((f : Image) → told ≡ Some f → (r : Image) → Restored f r → ⊥) → ForTold told (λ files. IsOpen files × ((r : Image) → Restored files r → ⊥))
opened None none = tt
opened (Some f) none = (⊎_elim (λ open_gate. open_gate) (λ shut. absurd (none f refl f (inl (shut, refl)))) (open_or_not f), none f refl)

-- a demonstration
pub demonstrated : (words : List (List ℕ)) (told left : Option Image) (outcomes : Image → Type 0) (before after : ℕ) (status : Status) → IsDemonstrated status → IsDemonstration words told left → Answers words told left outcomes before after status
demonstrated words told left outcomes before after (Done (Printed text)) is early = early
demonstrated words told left outcomes before after (Done other) is early = absurd is
demonstrated words told left outcomes before after (Differs request place) is early = early
demonstrated words told left outcomes before after OutOfMemory is early = inl early.0
demonstrated words told left outcomes before after other is early = absurd is

pub demonstrated_stands : (words : List (List ℕ)) (status : Status) → IsDemonstrated status → (found image : Image) → RestoresTo image found → StandsAfter words found status image
demonstrated_stands words (Done (Printed text)) is found image stands = stands
demonstrated_stands words (Done other) is found image stands = absurd is
demonstrated_stands words (Differs request place) is found image stands = stands
demonstrated_stands words OutOfMemory is found image stands = stands
demonstrated_stands words other is found image stands = absurd is

-- it names no file
pub demonstrated_line : (words : List (List ℕ)) (command : Command) → command_of words ≡ Some command → (NeedsFiles command → ⊥) → (status : Status) → line_of [] status ≡ reported words status
demonstrated_line words (Demo count) is never status = ap (λ (o : Option Command). line_of (files_named o) status) (sym is)
demonstrated_line words other is never status = absurd (never tt)

-- what a fault of recovery leaves, where it comes before its first write or in its writes
module _ (words : List (List ℕ)) (told left : Option Image) (kept outcomes : Image → Type 0) (before after : ℕ) (command : Command) (is : command_of words ≡ Some command) (needs : NeedsFiles command) where
  pub recovery_failed : (result : Status) (old new : Option (List ℕ)) (fewer more : ℕ) → Tells told left KeepsOthers → Rose before after →
      ((f r : Image) → told ≡ Some f → Restored f r → StartsRecover f kept → (c : Image) → outcomes c → RestoresTo c r) →
      Reports (StoreFault Recovering) (line_of [] (StoreFault Recovering)) result old new fewer more →
      Reported words (λ status. Answers words told left outcomes before after status × Survives words told kept outcomes status) result old new fewer more
  recovery_failed result old new fewer more others rose stands reports =
      (StoreFault Recovering, ((others, (command, is, needs), rose), λ f r told_is restored start c l. inl (stands f r told_is restored start c l)), reports)

  pub bad_journal : (result : Status) (old new : Option (List ℕ)) (fewer more : ℕ) → left ≡ told → ((c : Image) → outcomes c → kept c) →
      ((f : Image) → told ≡ Some f → (r : Image) → Restored f r → ⊥) → IsReported BadJournal [] result old new fewer more →
      Reported words (λ status. Answers words told left outcomes before after status × Survives words told kept outcomes status) result old new fewer more
  bad_journal result old new fewer more same fewer_left none reports =
      early words told left kept outcomes before after BadJournal result old new fewer more same fewer_left (same, (command, is, needs), opened told none) (λ found image stands. stands) refl reports
