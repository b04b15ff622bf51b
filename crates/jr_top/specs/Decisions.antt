-- What is decided before anything is written.
use Rattle.std.specs.Prelude.{◌≡◌, ◌≢◌, ◌⊎◌, ℕ, ◌<◌, ◌≤◌, List, [], ◌∷◌, length, Option, Some, None, Ok, Err, IsTrue}
use Rattle.std.specs.List.{AllByRecursion}
use Rattle.jr_base.specs.Files.{FileMap}
use Rattle.jr_base.specs.Paths.{is_java}
use Rattle.jr_base.specs.declared.limits.Size.{Size}
use Rattle.jr_base.specs.declared.limits.Size.TheVariants.{File, Path}
use Rattle.jr_base.specs.declared.request.Request.{Request}
use Rattle.jr_base.specs.declared.request.Request.TheVariants.{Rename}
use Rattle.jr_request.specs.Input.{ForInput, IsInputAnswer}
use Rattle.jr_commit.specs.Differences.{differences}
use Rattle.jr_commit.specs.Journal.{spelling, new_sides, IsIn, PutsBack}
use Rattle.jr_commit.specs.Planned.{Planned}
use Rattle.jr_commit.specs.Restoring.{SameFiles}
use Rattle.jr_commit.specs.SidesAt.{SideAt, with_sides}
use Rattle.jr_commit.specs.declared.entry.Version.TheVariants.{Two}
use Rattle.jr_engine.specs.Planning.{PlannedAs}
use Rattle.jr_engine.specs.declared.fault.Refused.{Refused}
use Rattle.jr_gather.specs.Gathering.{HoldsFiles, IsFirstTooLarge}
use Rattle.jr_request.specs.declared.command.Command.{Command}
use Rattle.jr_request.specs.declared.command.Command.TheVariants as command
use Rattle.jr_rule.specs.declared.Rule.TheVariants.{LocalNames}
use Rattle.jr_store.specs.Image.{Image, Rose}
use Rattle.jr_store.specs.Replay.{image_of}
use Rattle.jr_thin.specs.Renaming.{IsLost, IsBroken, IsDone}
use Rattle.jr_top.specs.Batches.{Hears}
use Rattle.jr_top.specs.Changing.{IsPlanOf, IsTooLong}
use Rattle.jr_top.specs.Engine.{IsPassedOn, answer_to}
use Rattle.jr_top.specs.Renaming.{AsksRename, Holds, ForTold}
use Rattle.jr_top.specs.declared.decide.Decision.{Decision}
use Rattle.jr_top.specs.declared.decide.Decision.TheVariants.{Answer, Refuse, Change}
use Rattle.jr_top.specs.declared.decide.Found.{Found}
use Rattle.jr_top.specs.declared.engine.Asked.{Asked}
use Rattle.jr_top.specs.declared.engine.Asked.TheVariants.{One, All}
use Rattle.jr_top.specs.declared.hear.Heard.{Heard}
use Rattle.jr_top.specs.declared.hear.Heard.TheVariants as heard
use Rattle.jr_top.specs.declared.status.Phase.TheVariants.{Reading}
use Rattle.jr_top.specs.declared.status.Report.TheVariants.{Changed}
use Rattle.jr_top.specs.declared.status.Status.{Status}
use Rattle.jr_top.specs.declared.status.Status.TheVariants.{Done, NoSpelling, BrokenRule, StoreFault, TooLarge, OutOfMemory}

-- the one path is that of a `.java` file
pub record IsOnePath (paths : List (List ℕ)) (file : List ℕ) : Type 0 where
  pub is : paths ≡ file ∷ []
  pub java : IsTrue (is_java file)

-- the one path, which is short
pub record IsShortPath (paths : List (List ℕ)) : Type 0 where
  pub file : List ℕ
  pub one : IsOnePath paths file
  pub short : length file ≤ 1024

abbrev pub found_bytes : Found → List ℕ
found_bytes found = found.bytes.items

-- what the file holds, and None where it is not the only one, is not there, or is large
abbrev pub IsHeld : Image → List ℕ → Option (List ℕ) → Type 0
IsHeld files file (Some bytes) = Holds files file bytes
IsHeld files file None = (bytes : List ℕ) → Holds files file bytes → ⊥

-- the file holds bytes of which this is so
abbrev pub HoldsSome : Option Image → List ℕ → (List ℕ → Type 0) → Type 0
HoldsSome told file P = ForTold told (λ files. (bytes : List ℕ) × Holds files file bytes × P bytes)

-- when each decision on a rename comes that is not left to the engine
abbrev pub DecidesRename : List ℕ → ℕ → List ℕ → Option Image → ℕ → ℕ → Decision → Type 0
DecidesRename file at name told before after (Answer (Done (Changed files))) = (files ≡ 0) × (length file ≤ 1024) × HoldsSome told file (λ bytes. IsDone bytes at name bytes)
DecidesRename file at name told before after (Answer (StoreFault Reading)) = Rose before after
DecidesRename file at name told before after (Answer (TooLarge Path request)) = (request ≡ 0) × (1024 < length file) × HoldsSome told file (λ bytes. Unit {0})
DecidesRename file at name told before after (Answer (TooLarge File request)) = (request ≡ 0) × (length file ≤ 1024) × HoldsSome told file (λ bytes. IsTooLong bytes at name)
DecidesRename file at name told before after (Answer OutOfMemory) = Unit {0}
DecidesRename file at name told before after (Refuse (NoSpelling request occ place lock) paths) =
    (request ≡ 0) × (place.cu.0 ≡ 2) × (paths.items ≡ file ∷ []) × (length file ≤ 1024) × HoldsSome told file (λ bytes. IsLost bytes at name occ place.at lock)
DecidesRename file at name told before after (Refuse (BrokenRule request rule place) paths) =
    (request ≡ 0) × (rule ≡ LocalNames) × (place.cu.0 ≡ 2) × (paths.items ≡ file ∷ []) × (length file ≤ 1024) × HoldsSome told file (λ bytes. IsBroken bytes at name place.at)
DecidesRename file at name told before after (Change plan) =
    (length file ≤ 1024) × (length plan.steps ≡ 1) × HoldsSome told file (λ old. (new : List ℕ) × IsDone old at name new × (new ≢ old) × (length new ≤ 1048576) × IsPlanOf file old new plan)
DecidesRename file at name told before after other = ⊥

-- the same, where the bytes that the file holds are known
abbrev pub DecidesFound : Found → ℕ → List ℕ → Decision → Type 0
DecidesFound found at name (Answer (Done (Changed files))) = (files ≡ 0) × IsDone found.bytes.items at name found.bytes.items
DecidesFound found at name (Answer (TooLarge File request)) = (request ≡ 0) × IsTooLong found.bytes.items at name
DecidesFound found at name (Answer OutOfMemory) = Unit {0}
DecidesFound found at name (Refuse (NoSpelling request occ place lock) paths) =
    (request ≡ 0) × (place.cu.0 ≡ 2) × (paths.items ≡ found.paths.items) × IsLost found.bytes.items at name occ place.at lock
DecidesFound found at name (Refuse (BrokenRule request rule place) paths) =
    (request ≡ 0) × (rule ≡ LocalNames) × (place.cu.0 ≡ 2) × (paths.items ≡ found.paths.items) × IsBroken found.bytes.items at name place.at
DecidesFound found at name (Change plan) = (file : List ℕ) × (found.paths.items ≡ file ∷ []) × (new : List ℕ) × IsDone found.bytes.items at name new × (new ≢ found.bytes.items)
    × (length new ≤ 1048576) × IsPlanOf file found.bytes.items new plan
DecidesFound found at name other = ⊥

abbrev pub IsRename : Command → Type 0
IsRename (command.One (Rename file at name)) = Unit {0}
IsRename other = ⊥

-- when each decision on one request comes that is not the engine's: on a rename
abbrev pub DecidesAlone : Request → Option Image → ℕ → ℕ → Decision → Type 0
DecidesAlone (Rename file at name) told before after decision = DecidesRename file at name told before after decision
DecidesAlone other told before after decision = ⊥

-- when each decision on the words comes that is not the engine's
abbrev pub Decides : List (List ℕ) → Option Image → ℕ → ℕ → Decision → Type 0
Decides words told before after decision = (file : List ℕ) × (at : ℕ) × (name : List ℕ) × AsksRename words file at name × DecidesRename file at name told before after decision

-- The plan makes the files left of those found: its steps and its journal are those of their differences, and the journal is in the grammar where there is a step.
pub record IsPlanFor (found left : FileMap) (plan : Planned) : Type 0 where
  pub journal : plan.journal ≡ spelling Two (differences found left)
  pub steps : plan.steps ≡ new_sides (differences found left)
  pub kept : plan.steps ≢ [] → IsIn Two plan.journal (differences found left)
  pub gives : (f : Image) → SameFiles f (image_of found) → SameFiles (with_sides plan.steps f) (image_of left)
  pub olds : (f : Image) → SameFiles f (image_of found) → (olds : List SideAt) → PutsBack plan.journal olds → AllByRecursion (λ e. f e.0 ≡ e.1) olds

-- the requests that are asked for
abbrev pub requests_of : Asked → List Request
requests_of (One request) = request.now ∷ []
requests_of (All requests) = requests.now

-- when each decision on files that were found comes
pub data DecidesFiles (found : FileMap) (requests : List Request) (decision : Decision) : Type 0 where
  files_differ : {left : FileMap} {plan : Planned} → decision ≡ Change plan → PlannedAs found requests (Ok left) → IsPlanFor found left plan → plan.steps ≢ [] → DecidesFiles found requests decision
  files_are_same : {left : FileMap} {plan : Planned} → decision ≡ Answer (Done (Changed 0)) → PlannedAs found requests (Ok left) → IsPlanFor found left plan → plan.steps ≡ [] → DecidesFiles found requests decision
  is_refused : (why : Refused) → decision ≡ Refuse (answer_to why.request why.fault) why.paths → PlannedAs found requests (Err why) → DecidesFiles found requests decision
  memory_is_short : decision ≡ Answer OutOfMemory → DecidesFiles found requests decision

-- when each decision on requests comes that the engine serves
pub data DecidesAll (requests : List Request) (told : Option Image) (before after : ℕ) (decision : Decision) : Type 0 where
  on_files : {found : FileMap} → ForTold told (λ files. HoldsFiles files found) → DecidesFiles found requests decision → DecidesAll requests told before after decision
  is_too_large : {what : Size} → decision ≡ Answer (TooLarge what 0) → ForTold told (λ files. IsFirstTooLarge files what) → DecidesAll requests told before after decision
  is_not_read : decision ≡ Answer (StoreFault Reading) → Rose before after → DecidesAll requests told before after decision
  is_short : decision ≡ Answer OutOfMemory → DecidesAll requests told before after decision

-- when each decision on one request comes
abbrev pub DecidesOne : Request → Option Image → ℕ → ℕ → Decision → Type 0
DecidesOne request told before after decision = DecidesAlone request told before after decision ⊎ (IsPassedOn request told × DecidesAll (request ∷ []) told before after decision)

-- what is heard: the requests of the input, or what is answered to it alone
abbrev pub HearsSo : Option (List ℕ) → ℕ → ℕ → Heard → Type 0
HearsSo told quiet loud (heard.Requests requests) = ForInput told (λ bytes. IsInputAnswer bytes (Ok requests.items))
HearsSo told quiet loud (heard.Answer said) = Hears told quiet loud said

-- when each decision on an input comes: by what it says, or by the requests that it asks for
abbrev pub DecidesInput : Option (List ℕ) → ℕ → ℕ → Option Image → ℕ → ℕ → Decision → Type 0
DecidesInput input quiet loud told before after decision = ((said : Status) × (decision ≡ Answer said) × Hears input quiet loud said)
    ⊎ ((requests : List Request) × ForInput input (λ bytes. IsInputAnswer bytes (Ok requests)) × DecidesAll requests told before after decision)

-- a command that asks for changes: one request, or those of the input
abbrev pub IsChanging : Command → Type 0
IsChanging (command.One request) = Unit {0}
IsChanging command.Batch = Unit {0}
IsChanging other = ⊥

-- when each decision on a command comes that asks for changes
abbrev pub Chooses : Command → Option (List ℕ) → ℕ → ℕ → Option Image → ℕ → ℕ → Decision → Type 0
Chooses (command.One request) input quiet loud told before after decision = DecidesOne request told before after decision
Chooses command.Batch input quiet loud told before after decision = DecidesInput input quiet loud told before after decision
Chooses other input quiet loud told before after decision = ⊥
