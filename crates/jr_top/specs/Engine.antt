-- The changes that the engine makes: one request, or a batch of requests.
use Rattle.std.specs.Prelude.{◌≡◌, ◌≢◌, ℕ, suc, List, [], ◌∷◌, length, Option, Some, None, Ok, Err, Bool, if◌then◌else◌, ⊤}
use Rattle.jr_base.specs.Files.{FileMap}
use Rattle.jr_base.specs.declared.limits.Size.{Size}
use Rattle.jr_base.specs.declared.request.Request.{Request}
use Rattle.jr_base.specs.declared.request.Request.TheVariants.{Rename}
use Rattle.jr_request.specs.Input.{ForInput, IsInputAnswer}
use Rattle.jr_top.specs.Reasons.{reason_number}
use Rattle.jr_commit.specs.Differences.{differences}
use Rattle.jr_commit.specs.Journal.{spelling, new_sides}
use Rattle.jr_commit.specs.Restoring.{journal_path, gate_path, RestoresTo, SameFiles}
use Rattle.jr_commit.specs.SidesAt.{IsOff}
use Rattle.jr_commit.specs.Undoing.{IsUndoable}
use Rattle.jr_commit.specs.declared.entry.Version.TheVariants.{Two}
use Rattle.jr_engine.specs.Planning.{PlannedAs}
use Rattle.jr_engine.specs.declared.fault.EngineFault.{EngineFault}
use Rattle.jr_engine.specs.declared.fault.EngineFault.TheVariants as engine
use Rattle.jr_engine.specs.declared.fault.LostKind.{LostKind}
use Rattle.jr_engine.specs.declared.fault.LostKind.TheVariants as lost
use Rattle.jr_engine.specs.declared.fault.Refused.{Refused}
use Rattle.jr_engine.specs.declared.fault.StepFault.{StepFault}
use Rattle.jr_engine.specs.declared.fault.StepFault.TheVariants as step
use Rattle.jr_gather.specs.Gathering.{HoldsFiles, IsFirstTooLarge}
use Rattle.jr_request.specs.Words.{command_of}
use Rattle.jr_request.specs.declared.command.Command.{Command}
use Rattle.jr_request.specs.declared.command.Command.TheVariants.{One, Batch}
use Rattle.jr_store.specs.Image.{Image, Tells, OnlyTold, Rose}
use Rattle.jr_store.specs.Replay.{image_of}
use Rattle.jr_top.specs.Checking.{status_of}
use Rattle.jr_top.specs.Recovering.{AsksRecovery, Recovers}
use Rattle.jr_top.specs.Renaming.{Holds, IsUnserved, ForTold}
use Rattle.jr_top.specs.declared.status.EdgeKind.{EdgeKind}
use Rattle.jr_top.specs.declared.status.EdgeKind.TheVariants.{Control, Dispatch, DefUse}
use Rattle.jr_top.specs.declared.status.Phase.TheVariants.{Reading, Writing}
use Rattle.jr_top.specs.declared.status.Report.TheVariants.{Changed}
use Rattle.jr_top.specs.declared.status.Side.{Side}
use Rattle.jr_top.specs.declared.status.Side.TheVariants.{Old, New}
use Rattle.jr_top.specs.declared.status.Status.{Status}
use Rattle.jr_top.specs.declared.status.Status.TheVariants as status

-- ---- what is asked for

-- the request is for the engine: a rename that is not served as one in a small file, or any other
abbrev pub IsPassedOn : Request → Option Image → Type 0
IsPassedOn (Rename file at name) told = ForTold told (λ files. (bytes : List ℕ) → Holds files file bytes → IsUnserved file bytes at name)
IsPassedOn other told = ⊤

-- the words ask for one request, which is for the engine
abbrev pub AsksOne : List (List ℕ) → Option Image → List Request → Type 0
AsksOne words found requests = (request : Request) × (command_of words ≡ Some (One request)) × (requests ≡ request ∷ []) × IsPassedOn request found

-- the words ask for the requests of the input
abbrev pub AsksAll : List (List ℕ) → Option (List ℕ) → Option Image → List Request → Type 0
AsksAll words heard found requests = (command_of words ≡ Some Batch) × ForInput heard (λ bytes. IsInputAnswer bytes (Ok requests))

-- the requests that a command may ask for: its own, or those of an input
abbrev pub MayAsk : Option Command → List Request → Type 0
MayAsk (Some (One request)) requests = requests ≡ request ∷ []
MayAsk (Some Batch) requests = ⊤
MayAsk other requests = ⊥

-- ---- what is answered, and what is left

abbrev pub kind_of : LostKind → EdgeKind
kind_of lost.Control = Control
kind_of lost.Dispatch = Dispatch
kind_of lost.DefUse = DefUse

abbrev pub side_of : Bool → Side
side_of is_old = if is_old then Old else New

-- the answer to a request that leaves nothing of files that compile
abbrev pub step_answer : ℕ → StepFault → Status
step_answer request (step.BadRequest reason) = status.BadRequest request (reason_number reason) None
step_answer request (step.NoSpelling occ place lock) = status.NoSpelling request occ place lock
step_answer request (step.LostEdge kind first second is_old) = status.LostEdge request (record { kind = kind_of kind; first = first; second = second; side = side_of is_old })
step_answer request (step.StillUsed place) = status.StillUsed place
step_answer request (step.Broken rule place) = status.BrokenRule request rule place
step_answer request (step.Differs place) = status.Differs request place
step_answer request (step.TooLarge what) = status.TooLarge what request
step_answer request step.OutOfMemory = status.OutOfMemory

-- the answer to requests that are refused
abbrev pub answer_to : ℕ → EngineFault → Status
answer_to request (engine.Front why) = status_of why
answer_to request (engine.Step why) = step_answer request why

-- old and new differ at the paths of the differences of the files, the journal and the gate at most
abbrev pub MayReplace : FileMap → FileMap → Image → Image → Type 0
MayReplace found left old new = (q : List ℕ) → IsOff (new_sides (differences found left)) q → q ≢ journal_path → q ≢ gate_path → new q ≡ old q

-- The files left are those that the engine made of the files found, as many differ as is answered, and no other path has changed. The journal is that of
-- the change, which can be taken back, and the gate is closed.
pub record IsReplaced (requests : List Request) (count : ℕ) (old new : Image) : Type 0 where
  pub found : FileMap
  pub left : FileMap
  pub holds : HoldsFiles old found
  pub planned : PlannedAs found requests (Ok left)
  pub counted : count ≡ length (new_sides (differences found left))
  pub files : SameFiles new (image_of left)
  pub journal : new journal_path ≡ Some (spelling Two (differences found left))
  pub undoable : IsUndoable new (differences found left)
  pub gate : new gate_path ≡ None
  pub others : MayReplace found left old new

-- the files left would be those found
abbrev pub IsUnchanged : List Request → Image → Type 0
IsUnchanged requests files = (found : FileMap) × (left : FileMap) × HoldsFiles files found × PlannedAs found requests (Ok left) × SameFiles files (image_of left)

-- at most files that differ have changed
abbrev pub IsPartlyReplaced : List Request → Image → Image → Type 0
IsPartlyReplaced requests old new = (found : FileMap) × (left : FileMap) × HoldsFiles old found × PlannedAs found requests (Ok left) × MayReplace found left old new

-- the engine refuses the requests so
abbrev pub IsRefusedAs : List Request → Refused → Image → Type 0
IsRefusedAs requests refused files = (found : FileMap) × HoldsFiles files found × PlannedAs found requests (Err refused)

-- What requests come to on the files that recovery has found, and what is left. Each answer but the change of files leaves every path as it was found. The
-- paths of a line are those of the program in which its places lie.
pub data Plans (requests : List Request) (paths : List (List ℕ)) (found left : Option Image) (outcomes : Image → Type 0) (before after : ℕ) (said : Status) : Type 0 where
  -- the files differ, and a crash leaves the new ones
  replaced : {n : ℕ} → said ≡ status.Done (Changed (suc n)) → Tells found left (IsReplaced requests (suc n)) → OnlyTold left outcomes → Plans requests paths found left outcomes before after said
  unchanged : said ≡ status.Done (Changed 0) → left ≡ found → ForTold found (IsUnchanged requests) → Plans requests paths found left outcomes before after said
  refused : (why : Refused) → said ≡ answer_to why.request why.fault → paths ≡ why.paths.items → left ≡ found → ForTold found (IsRefusedAs requests why) → Plans requests paths found left outcomes before after said
  -- a size of the files found passes its limit
  oversized : {what : Size} → said ≡ status.TooLarge what 0 → left ≡ found → ForTold found (λ files. IsFirstTooLarge files what) → Plans requests paths found left outcomes before after said
  not_read : said ≡ status.StoreFault Reading → left ≡ found → Rose before after → Plans requests paths found left outcomes before after said
  not_written : said ≡ status.StoreFault Writing → Tells found left (IsPartlyReplaced requests) → Rose before after → Plans requests paths found left outcomes before after said
  no_memory : said ≡ status.OutOfMemory → left ≡ found → Plans requests paths found left outcomes before after said

-- what requests come to that are asked for, on the files that recovery has found
abbrev pub PlansAsked : (Option Image → List Request → Type 0) → List (List ℕ) → Option Image → Option Image → (Image → Type 0) → ℕ → ℕ → Status → Type 0
PlansAsked Asks paths found left outcomes before after said = (requests : List Request) × Asks found requests × Plans requests paths found left outcomes before after said

-- when each answer to requests comes that the engine serves: they are asked for, recovery has found files, and the answer comes on these
abbrev pub AnswersPlanned : List (List ℕ) → (Option Image → List Request → Type 0) → List (List ℕ) → Option Image → Option Image → (Image → Type 0) → ℕ → ℕ → Status → Type 0
AnswersPlanned words Asks paths told left outcomes before after said = (found : Option Image) × AsksRecovery words × Recovers told found × PlansAsked Asks paths found left outcomes before after said

-- the image stands for the files that the engine makes of those found
abbrev pub StandsForPlanned : List (List ℕ) → Image → Image → Type 0
StandsForPlanned words files image = (requests : List Request) × MayAsk (command_of words) requests
    × ((found : FileMap) × (left : FileMap) × HoldsFiles files found × PlannedAs found requests (Ok left) × RestoresTo image (image_of left))
