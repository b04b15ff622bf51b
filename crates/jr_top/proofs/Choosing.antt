-- From what a command asks for to what is decided on.
use Rattle.std.proofs.Common.{◌≡◌, ◌⊎◌, inl, inr, ℕ, ◌≤◌, List, [], ◌∷◌, Option, Some, None, Ok, Err, Global, refl, sym, ap, subst, ◌∙◌, arith}
use Rattle.std.proofs.lemmas.Option.{same_Some, none-some}
use Rattle.jr_base.specs.declared.request.Request.{Request}
use Rattle.jr_base.specs.declared.request.Request.TheVariants.{Rename}
use Rattle.jr_request.specs.Input.{ForInput, IsInputAnswer}
use Rattle.jr_request.specs.declared.input_fault.BatchFault.{BatchFault}
use Rattle.jr_request.proofs.OneAnswer.{one_answer}
use Rattle.jr_commit.specs.Planned.{Planned}
use Rattle.jr_commit.specs.Restoring.{Restored}
use Rattle.jr_gather.specs.Gathering.{HoldsFiles, IsFirstTooLarge}
use Rattle.jr_request.specs.Words.{command_of}
use Rattle.jr_request.specs.declared.command.Command.{Command}
use Rattle.jr_request.specs.declared.command.Command.TheVariants.{One, Batch, Check, Undo, Run, Refs, Subtypes, Callers, Demo}
use Rattle.jr_store.specs.Image.{Image, Rose}
use Rattle.jr_thin.specs.Renaming.{Serves}
use Rattle.jr_top.specs.Checking.{IsReading}
use Rattle.jr_top.specs.Decisions.{Decides, DecidesAll, on_files, is_too_large, is_not_read, is_short, DecidesOne, DecidesInput, IsChanging, Chooses}
use Rattle.jr_top.specs.Engine.{IsPassedOn, AsksOne, AsksAll, MayAsk}
use Rattle.jr_top.specs.Recovering.{NeedsFiles, Recovers}
use Rattle.jr_top.specs.Renaming.{AsksRename, Holds, ForTold}
use Rattle.jr_top.specs.declared.decide.Decision.{Decision}
use Rattle.jr_top.specs.declared.decide.Decision.TheVariants.{Answer, Change}
use Rattle.jr_top.specs.declared.status.Status.{Status}
use Rattle.jr_top.proofs.Outcomes.{rose_earlier, found_files}
use Rattle.jr_top.proofs.Settled.{holds_back}

-- what is decided on later files, which are the same, is decided on the files
pub earlier_all : (requests : List Request) (told mid : Option Image) (before middle after : ℕ) (decision : Decision) → mid ≡ told → before ≤ middle → DecidesAll requests mid middle after decision → DecidesAll requests told before after decision
earlier_all requests told mid before middle after decision same later (on_files {found = found} holds decides) = on_files (subst (λ (t : Option Image). ForTold t (λ files. HoldsFiles files found)) same holds) decides
earlier_all requests told mid before middle after decision same later (is_too_large {what = what} is large) = is_too_large is (subst (λ (t : Option Image). ForTold t (λ files. IsFirstTooLarge files what)) same large)
earlier_all requests told mid before middle after decision same later (is_not_read is rose) = is_not_read is (rose_earlier before middle after later rose)
earlier_all requests told mid before middle after decision same later (is_short is) = is_short is

-- a request that is left to the engine
pub passed_on : (request : Request) (told mid : Option Image) (before middle after : ℕ) (decision : Decision) → IsPassedOn request told → mid ≡ told → before ≤ middle
    → DecidesAll (request ∷ []) mid middle after decision → DecidesOne request told before after decision
passed_on request told mid before middle after decision passed same later all = inr (passed, earlier_all (request ∷ []) told mid before middle after decision same later all)

-- any other request is for the engine
pub passed_other : (request : Request) (told : Option Image) → ((file : List ℕ) (at : ℕ) (name : List ℕ) → request ≡ Rename file at name → ⊥) → IsPassedOn request told
passed_other (Rename file at name) told none = absurd (none file at name refl)
passed_other other told none = tt

-- ---- which command it is

-- a command that needs the files, does not only read them and is no undo asks for changes
pub changing : (command : Command) → NeedsFiles command → (IsReading command → ⊥) → (command ≡ Undo → ⊥) → IsChanging command
changing (One request) needs no_reading no_undo = tt
changing Batch needs no_reading no_undo = tt
changing Check needs no_reading no_undo = absurd (no_reading tt)
changing (Run class steps) needs no_reading no_undo = absurd (no_reading tt)
changing (Refs file at) needs no_reading no_undo = absurd (no_reading tt)
changing (Subtypes file at) needs no_reading no_undo = absurd (no_reading tt)
changing (Callers file at) needs no_reading no_undo = absurd (no_reading tt)
changing Undo needs no_reading no_undo = absurd (no_undo refl)
changing (Demo number) needs no_reading no_undo = absurd needs

-- and a command that does is one request or a batch
pub no_other : (command : Command) → IsChanging command → ((request : Request) → command ≡ One request → ⊥) → (command ≡ Batch → ⊥) → ⊥
no_other (One request) changes no_request no_batch = no_request request refl
no_other Batch changes no_request no_batch = no_batch refl
no_other other changes no_request no_batch = changes

-- ---- what is decided on it

-- a command that is no batch: it is decided on without the engine, or its request is for the engine
pub chosen_one : (words : List (List ℕ)) (command : Command) → command_of words ≡ Some command → (heard : Option (List ℕ)) (quiet loud : ℕ) (told : Option Image) (before after : ℕ) (decision : Decision) → Chooses command heard quiet loud told before after decision
    → (command ≡ Batch → ⊥)
    → Decides words told before after decision ⊎ ((request : Request) × (command ≡ One request) × IsPassedOn request told × DecidesAll (request ∷ []) told before after decision)
chosen_one words (One (Rename file at name)) is heard quiet loud told before after decision (inl alone) no_batch = inl (file, at, name, is, alone)
chosen_one words (One other) is heard quiet loud told before after decision (inl alone) no_batch = absurd alone
chosen_one words (One request) is heard quiet loud told before after decision (inr (passed, all)) no_batch = inr (request, refl, passed, all)
chosen_one words Batch is heard quiet loud told before after decision chooses no_batch = absurd (no_batch refl)
chosen_one words other is heard quiet loud told before after decision chooses no_batch = absurd chooses

pub chosen_batch : (command : Command) (heard : Option (List ℕ)) (quiet loud : ℕ) (told : Option Image) (before after : ℕ) (decision : Decision) → command ≡ Batch → Chooses command heard quiet loud told before after decision
    → DecidesInput heard quiet loud told before after decision
chosen_batch command heard quiet loud told before after decision is chooses = subst (λ (c : Command). Chooses c heard quiet loud told before after decision) is chooses

changed_no_answer : (p : Planned) (b : Status) → Change p ≡ Answer b → ⊥
changed_no_answer p b is = cc

-- a change is that of a small rename, or the engine's
pub chosen_change : (words : List (List ℕ)) (command : Command) → command_of words ≡ Some command → (heard : Option (List ℕ)) (quiet loud : ℕ) (told : Option Image) (before after : ℕ) (plan : Planned) → Chooses command heard quiet loud told before after (Change plan)
    → Decides words told before after (Change plan) ⊎ ((requests : List Request) × MayAsk (Some command) requests × DecidesAll requests told before after (Change plan))
chosen_change words (One (Rename file at name)) is heard quiet loud told before after plan (inl alone) = inl (file, at, name, is, alone)
chosen_change words (One other) is heard quiet loud told before after plan (inl alone) = absurd alone
chosen_change words (One request) is heard quiet loud told before after plan (inr (passed, all)) = inr (request ∷ [], refl, all)
chosen_change words Batch is heard quiet loud told before after plan (inl (said, answer, hears)) = absurd (changed_no_answer plan said answer)
chosen_change words Batch is heard quiet loud told before after plan (inr (requests, asked, all)) = inr (requests, tt, all)
chosen_change words other is heard quiet loud told before after plan chooses = absurd chooses

-- ---- what the words ask for

pub asks_one : (words : List (List ℕ)) (command : Command) (request : Request) (told : Option Image) → command_of words ≡ Some command → command ≡ One request → IsPassedOn request told → AsksOne words told (request ∷ [])
asks_one words command request told is one passed = (request, is ∙ ap Some one, refl, passed)

pub may_ask : (words : List (List ℕ)) (command : Command) (requests : List Request) → command_of words ≡ Some command → MayAsk (Some command) requests → MayAsk (command_of words) requests
may_ask words command requests is may = subst (λ (o : Option Command). MayAsk o requests) (sym is) may

pub one_may : (words : List (List ℕ)) (command : Command) (request : Request) → command_of words ≡ Some command → command ≡ One request → MayAsk (command_of words) (request ∷ [])
one_may words command request is one = subst (λ (o : Option Command). MayAsk o (request ∷ [])) (sym (is ∙ ap Some one)) refl

pub batch_may : (words : List (List ℕ)) (requests : List Request) → command_of words ≡ Some Batch → MayAsk (command_of words) requests
batch_may words requests is = subst (λ (o : Option Command). MayAsk o requests) (sym is) tt

-- the engine gets no rename that is served without it
pub small_never : (words : List (List ℕ)) (told here : Option Image) (files found : Image) (requests : List Request) (file : List ℕ) (at : ℕ) (name bytes : List ℕ) → told ≡ Some files → Restored files found → Recovers told here
    → AsksOne words here requests → AsksRename words file at name → Holds found file bytes → Serves bytes at name → ⊥
small_never words told here files found requests file at name bytes told_is restored recovers (request, is, one, passed) asks holds serves =
    let there = found_files files found told here told_is restored recovers in
    let same : One request ≡ One (Rename file at name) = same_Some _ _ (sym is ∙ asks) in
    let request_is : request ≡ Rename file at name = cc in
    let unserved : IsPassedOn (Rename file at name) (Some there.0) = subst (IsPassedOn (Rename file at name)) there.1 (subst (λ (r : Request). IsPassedOn r here) request_is passed) in
    (unserved bytes (holds_back there.0 found file bytes there.2 holds)).1 serves

-- nor a batch whose input is refused
pub refused_never : (words : List (List ℕ)) (told : Option (List ℕ)) (found : Option Image) (requests : List Request) → AsksAll words told found requests → (alloc : Global) (bytes : List ℕ) (why : BatchFault)
    → told ≡ Some bytes → IsInputAnswer bytes (Err why) → ⊥
refused_never words told found requests (is, asked) alloc bytes why told_is q =
    let here : IsInputAnswer bytes (Ok requests) = subst (λ (t : Option (List ℕ)). ForInput t (λ bs. IsInputAnswer bs (Ok requests))) told_is asked in
    let same : Ok requests ≡ Err why = one_answer alloc bytes (Ok requests) (Err why) here q in
    cc

-- no files stand behind the journal
pub never_recovers : (told here : Option Image) (files : Image) → told ≡ Some files → ((restored : Image) → Restored files restored → ⊥) → Recovers told here → ⊥
never_recovers None here files is none recovers = none-some files is
never_recovers (Some f) None files is none recovers = recovers
never_recovers (Some f) (Some g) files is none recovers = none recovers.stood.0 (subst (λ (i : Image). Restored i recovers.stood.0) (same_Some f files is) recovers.stood.1)
