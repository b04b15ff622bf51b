-- From what an input comes to, to the answer to a batch.
use Rattle.std.proofs.Common.{◌≡◌, ◌⊎◌, inl, inr, ℕ, List, [], Option, Some, Ok, Err, Vec, Global, sym, ap, subst, ◌∙◌, arith}
use Rattle.std.proofs.lemmas.Option.{same_Some}
use Rattle.jr_base.specs.declared.request.Request.{Request}
use Rattle.jr_request.specs.Input.{ForInput, IsInputAnswer, LeavesSome}
use Rattle.jr_request.specs.declared.input_fault.BatchFault.{BatchFault}
use Rattle.jr_request.specs.declared.input_fault.BatchFault.TheVariants as fault
use Rattle.jr_request.proofs.OneAnswer.{one_answer}
use Rattle.jr_commit.specs.Restoring.{Restored, RestoresTo, StartsRecover}
use Rattle.jr_request.specs.declared.command.Command.TheVariants.{Batch}
use Rattle.jr_store.specs.Image.{Image}
use Rattle.jr_commit.specs.Planned.{Planned}
use Rattle.jr_top.specs.Batches.{AsksBatch, Hears, IsHeard, AnswersBatch, status_of, IsBatchFailure}
use Rattle.jr_top.specs.Crash.{Survives}
use Rattle.jr_top.specs.Decisions.{IsRename, DecidesAll, DecidesInput}
use Rattle.jr_top.specs.declared.decide.Decision.{Decision}
use Rattle.jr_top.specs.declared.decide.Decision.TheVariants.{Answer, Refuse, Change}
use Rattle.jr_top.specs.Performing.{Reported}
use Rattle.jr_top.specs.Recovering.{Recovers}
use Rattle.jr_top.specs.Renaming.{AsksRename, files_named}
use Rattle.jr_top.specs.declared.status.Phase.TheVariants.{Recovering}
use Rattle.jr_top.specs.declared.status.Status.{Status}
use Rattle.jr_top.specs.declared.status.Status.TheVariants.{BadRequest, StoreFault, SourceFault, TooLarge, OutOfMemory, BadJournal}
use Rattle.jr_top.specs.Answers.{IsReported, reported}
use Rattle.jr_top.proofs.Outcomes.{no_bad_journal}
use Rattle.jr_top.proofs.PlainAnswers.{IsPlain, unnamed}

-- nothing of the input was taken
pub untaken : (bytes : List ℕ) (left : Option (List ℕ)) → left ≡ Some bytes → LeavesSome bytes left
untaken bytes left is = (0, omega arith, is)

-- words that ask for a rename ask for no batch
pub no_batch : (words : List (List ℕ)) (file : List ℕ) (at : ℕ) (name : List ℕ) → AsksRename words file at name → AsksBatch words → ⊥
no_batch words file at name asks batch = subst IsRename (same_Some _ _ (sym asks ∙ batch)) tt

-- what an input alone comes to
module _ (heard : Option (List ℕ)) (quiet loud : ℕ) where
  pub heard_alone : (told left : Option Image) (kept outcomes : Image → Type 0) (status said result : Status) (old new : Option (List ℕ)) (fewer more : ℕ) → Answer status ≡ Answer said → Hears heard quiet loud said → left ≡ told
      → ((c : Image) → outcomes c → kept c) → IsReported status [] result old new fewer more → IsHeard told left kept outcomes (λ s. Hears heard quiet loud s × IsReported s [] result old new fewer more)
  heard_alone told left kept outcomes status said result old new fewer more is hears same few r =
      let status_is : status ≡ said = cc in
      record { said = status; answer = (subst (Hears heard quiet loud) (sym status_is) hears, r); same = same; fewer = few }

  module _ (told : Option Image) (before after : ℕ) where
    abbrev Asked : Decision → Type 0
    Asked decision = (requests : List Request) × ForInput heard (λ bytes. IsInputAnswer bytes (Ok requests)) × DecidesAll requests told before after decision

    refused_no_answer : (a b : Status) (ps : Vec (List ℕ) Global) → Refuse a ps ≡ Answer b → ⊥
    refused_no_answer a b ps is = cc

    changed_no_answer : (p : Planned) (b : Status) → Change p ≡ Answer b → ⊥
    changed_no_answer p b is = cc

    pub no_input_refusal : (status : Status) (paths : Vec (List ℕ) Global) → DecidesInput heard quiet loud told before after (Refuse status paths) → Asked (Refuse status paths)
    no_input_refusal status paths (inl (said, is, hears)) = absurd (refused_no_answer status said paths is)
    no_input_refusal status paths (inr asked) = asked

    pub no_input_change : (plan : Planned) → DecidesInput heard quiet loud told before after (Change plan) → Asked (Change plan)
    no_input_change plan (inl (said, is, hears)) = absurd (changed_no_answer plan said is)
    no_input_change plan (inr asked) = asked

-- a batch names no file
pub batch_plain : (words : List (List ℕ)) → AsksBatch words → IsPlain words [] (reported words)
batch_plain words asks = unnamed words (Batch, asks, tt) (ap files_named asks)

module _ (words : List (List ℕ)) (told left : Option Image) (kept outcomes : Image → Type 0) (before after : ℕ) (heard : Option (List ℕ)) (quiet loud : ℕ) where
  abbrev Said : Status → Type 0
  Said status = AnswersBatch words told left outcomes before after heard quiet loud status × Survives words told kept outcomes status

  -- the answer to an input that was read
  module _ (recovered : Recovers told left) (stands : (f found : Image) → told ≡ Some f → Restored f found → StartsRecover f kept → (c : Image) → outcomes c → RestoresTo c found) where
    pub heard_so : (status : Status) → Hears heard quiet loud status → Said status
    heard_so SourceFault h = ((recovered, h), stands)
    heard_so (TooLarge what request) h = ((recovered, h), stands)
    heard_so (BadRequest request reason field) h = ((recovered, h), stands)
    heard_so OutOfMemory h = (inr recovered, stands)
    heard_so other h = absurd h

  -- the one answer of an input that is told
  module _ (old new : Option (List ℕ)) (fewer more : ℕ) (alloc : Global) (files found : Image) (is : told ≡ Some files) (restored : Restored files found) (bytes : List ℕ) (why : BatchFault)
      (heard_is : heard ≡ Some bytes) (q : IsInputAnswer bytes (Err why)) where
    one : (other : BatchFault) → ForInput heard (λ bs. IsInputAnswer bs (Err other)) → other ≡ why
    one other h =
        let same : Err other ≡ Err why = one_answer alloc bytes (Err other) (Err why) (subst (λ (t : Option (List ℕ)). ForInput t (λ bs. IsInputAnswer bs (Err other))) heard_is h) q in
        cc

    each_exact : (status : Status) → AnswersBatch words told left outcomes before after heard quiet loud status → (status ≡ status_of why) ⊎ IsBatchFailure before after fewer more quiet loud status
    each_exact BadJournal a = absurd (no_bad_journal files found told is restored a.2)
    each_exact (StoreFault Recovering) a = inr a.2
    each_exact (StoreFault other) a = absurd a.1
    each_exact OutOfMemory a = inr tt
    each_exact SourceFault a = inr a.1
    each_exact (TooLarge what request) a = inl (ap (λ n. TooLarge what n) a.1.0 ∙ ap status_of (one (fault.TooLarge what) a.1.1))
    each_exact (BadRequest request reason field) a = inl (ap (λ n. BadRequest request n field) a.1.0 ∙ ap status_of (one (fault.Refused request field) a.1.1))
    each_exact other a = absurd a.1

    pub exact : (result : Status) → Reported words Said result old new fewer more → (result ≡ status_of why) ⊎ IsBatchFailure before after fewer more quiet loud result
    exact result (status, said, inl done) = subst (λ (x : Status). (x ≡ status_of why) ⊎ IsBatchFailure before after fewer more quiet loud x) (sym done.0) (each_exact status said.0)
    exact result (status, said, inr failed) = inr (subst (IsBatchFailure before after fewer more quiet loud) (sym failed.0) failed.2)
