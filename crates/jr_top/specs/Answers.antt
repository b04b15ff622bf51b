-- When each answer comes, and what it leaves.
use Rattle.std.specs.Prelude.{◌≡◌, ◌⊎◌, ℕ, zero, suc, ◌<◌, ◌≤◌, List, length, Option, None, IsSome}
use Rattle.std.specs.Io.KnownBytes.{Appends}
use Rattle.jr_base.specs.declared.limits.Size.TheVariants.{File, Path}
use Rattle.jr_commit.specs.Restoring.{IsOpen, KeepsOthers, Restored}
use Rattle.jr_request.specs.Words.{command_of}
use Rattle.jr_rule.specs.declared.Rule.TheVariants.{LocalNames}
use Rattle.jr_store.specs.Image.{Image, Tells, OnlyTold, Rose}
use Rattle.jr_store.specs.Streams.{AppendsPart}
use Rattle.jr_thin.specs.Renaming.{IsLost, IsBroken, IsDone}
use Rattle.jr_top.specs.Changing.{IsCommitted, IsTooLong, MayChange}
use Rattle.jr_top.specs.Line.{line_of}
use Rattle.jr_top.specs.Recovering.{AsksRecovery, Recovers}
use Rattle.jr_top.specs.Renaming.{AsksRename, AsksSomeRename, files_named, Holds, ForTold}
use Rattle.jr_top.specs.declared.status.Phase.TheVariants.{Recovering, Reading, Writing}
use Rattle.jr_top.specs.declared.status.Report.TheVariants.{Changed, Printed}
use Rattle.jr_top.specs.declared.status.Status.{Status}
use Rattle.jr_top.specs.declared.status.Status.TheVariants.{Done, BadWords, NoSpelling, BrokenRule, StoreFault, SinkFault, TooLarge, OutOfMemory, BadJournal, Differs}

-- The words ask for the rename of a file, whose path has at most 1,024 bytes, and it holds bytes of which this is so.
-- What a store does not tell is not known.
abbrev pub Asks : List (List ℕ) → Option Image → (List ℕ → ℕ → List ℕ → Type 0) → Type 0
Asks words told P = (file : List ℕ) × (at : ℕ) × (name : List ℕ) × AsksRename words file at name × (length file ≤ 1024)
    × ForTold told (λ files. (bytes : List ℕ) × Holds files file bytes × P bytes at name)

-- The files left are the change that the words ask for, the journal is that of the change, the gate is closed, and a
-- crash leaves them so. Where nothing is to be changed, nothing is written.
abbrev pub LeavesChange : List (List ℕ) → Option Image → Option Image → (Image → Type 0) → ℕ → Type 0
LeavesChange words found left outcomes zero = (left ≡ found) × Asks words found (λ bytes at name. IsDone bytes at name bytes)
LeavesChange words found left outcomes (suc zero) = ((file : List ℕ) × (at : ℕ) × (name : List ℕ) × AsksRename words file at name × (length file ≤ 1024)
    × Tells found left (IsCommitted file at name)) × OnlyTold left outcomes
LeavesChange words found left outcomes (suc (suc n)) = ⊥

-- When each answer comes where recovery has found these files, and what it leaves. An answer before the first write of
-- the commit leaves every path as it was found, the journal's too.
abbrev pub AnswersFound : List (List ℕ) → Option Image → Option Image → (Image → Type 0) → ℕ → ℕ → Status → Type 0
AnswersFound words found left outcomes before after (Done (Changed files)) = LeavesChange words found left outcomes files
-- the first name of the changed text that does not refer to its old declaration, at its place in the old file
AnswersFound words found left outcomes before after (NoSpelling request occ place lock) = (left ≡ found) × (request ≡ 0) × (place.cu.0 ≡ 2)
    × Asks words found (λ bytes at name. IsLost bytes at name occ place.at lock)
-- the first local or parameter of the changed text that is declared in the scope of one of its name, at its place there
AnswersFound words found left outcomes before after (BrokenRule request rule place) = (left ≡ found) × (request ≡ 0) × (rule ≡ LocalNames) × (place.cu.0 ≡ 2)
    × Asks words found (λ bytes at name. IsBroken bytes at name place.at)
-- the path is longer than 1,024 bytes
AnswersFound words found left outcomes before after (TooLarge Path request) = (left ≡ found) × (request ≡ 0)
    × ((file : List ℕ) × (at : ℕ) × (name : List ℕ) × AsksRename words file at name × (1024 < length file) × ForTold found (λ files. (bytes : List ℕ) × Holds files file bytes))
-- the changed text is longer than 1,048,576 bytes
AnswersFound words found left outcomes before after (TooLarge File request) = (left ≡ found) × (request ≡ 0)
    × Asks words found IsTooLong
AnswersFound words found left outcomes before after (StoreFault Reading) = (left ≡ found) × AsksSomeRename words × Rose before after
AnswersFound words found left outcomes before after (StoreFault Writing) = ((file : List ℕ) × (at : ℕ) × (name : List ℕ) × AsksRename words file at name
    × Tells found left (MayChange file)) × Rose before after
AnswersFound words found left outcomes before after OutOfMemory = left ≡ found
AnswersFound words found left outcomes before after other = ⊥

-- recovery has found files, and the answer comes on these
abbrev pub OnFound : List (List ℕ) → Option Image → Option Image → (Image → Type 0) → ℕ → ℕ → Status → Type 0
OnFound words told left outcomes before after status = (found : Option Image) × AsksRecovery words × Recovers told found × AnswersFound words found left outcomes before after status

-- the words ask for a demonstration, which leaves every path as it was
abbrev pub IsDemonstration : List (List ℕ) → Option Image → Option Image → Type 0
IsDemonstration words told left = (left ≡ told) × IsSome (command_of words) × (AsksRecovery words → ⊥)

-- When each answer comes, and what it leaves. One before the first write of recovery leaves every path as it was.
abbrev pub Answers : List (List ℕ) → Option Image → Option Image → (Image → Type 0) → ℕ → ℕ → Status → Type 0
Answers words told left outcomes before after BadWords = (left ≡ told) × (command_of words ≡ None)
-- the gate is open, and the journal is absent or in no version's grammar
Answers words told left outcomes before after BadJournal = (left ≡ told) × AsksRecovery words
    × ForTold told (λ files. IsOpen files × ((restored : Image) → Restored files restored → ⊥))
Answers words told left outcomes before after (StoreFault Recovering) = Tells told left KeepsOthers × AsksRecovery words × Rose before after
Answers words told left outcomes before after OutOfMemory = (left ≡ told) ⊎ OnFound words told left outcomes before after OutOfMemory
Answers words told left outcomes before after (Done (Printed text)) = IsDemonstration words told left
Answers words told left outcomes before after (Differs request place) = IsDemonstration words told left
Answers words told left outcomes before after other = OnFound words told left outcomes before after other

-- The output gets the line. Where it fails, it gets a beginning of the line, and the answer says so.
abbrev pub Reports : Status → List ℕ → Status → Option (List ℕ) → Option (List ℕ) → ℕ → ℕ → Type 0
Reports status line result old new before after =
    ((result ≡ status) × Appends old new line) ⊎ ((result ≡ SinkFault) × AppendsPart old new line × Rose before after)

-- what is reported of an answer that leaves the files: the answer, or want of memory
abbrev pub IsReported : Status → List (List ℕ) → Status → Option (List ℕ) → Option (List ℕ) → ℕ → ℕ → Type 0
IsReported status paths result old new before after =
    (final : Status) × ((final ≡ status) ⊎ (final ≡ OutOfMemory)) × Reports final (line_of paths final) result old new before after

-- the line of an answer, with the file that the words name
abbrev pub reported : List (List ℕ) → Status → List ℕ
reported words status = line_of (files_named (command_of words)) status

-- Of the answer this is so, and the output got its line. After a fault of the output it is so of the answer whose line
-- was being written.
abbrev pub OutcomeOf : (Status → List ℕ) → (Status → Type 0) → Option (List ℕ) → Option (List ℕ) → ℕ → ℕ → Status → Type 0
OutcomeOf line IsSo old new fewer more SinkFault = (status : Status) × IsSo status × AppendsPart old new (line status) × Rose fewer more
OutcomeOf line IsSo old new fewer more status = IsSo status × Appends old new (line status)

-- the same, where the line shows the file that the words name
abbrev pub Outcome : List (List ℕ) → (Status → Type 0) → Option (List ℕ) → Option (List ℕ) → ℕ → ℕ → Status → Type 0
Outcome words = OutcomeOf (reported words)

-- what may be answered in place of any answer: want of memory, or a fault whose count rose
abbrev pub IsFailure : ℕ → ℕ → ℕ → ℕ → Status → Type 0
IsFailure before after fewer more OutOfMemory = Unit {0}
IsFailure before after fewer more (StoreFault phase) = Rose before after
IsFailure before after fewer more SinkFault = Rose fewer more
IsFailure before after fewer more other = ⊥

-- what may be answered to a demonstration: its text, or that the engine has made something else than was asked for
abbrev pub IsDemonstrated : Status → Type 0
IsDemonstrated (Done (Printed text)) = Unit {0}
IsDemonstrated (Differs request place) = Unit {0}
IsDemonstrated OutOfMemory = Unit {0}
IsDemonstrated other = ⊥

-- what may be answered to a rename that is served
abbrev pub IsServedAnswer : ℕ → ℕ → ℕ → ℕ → Status → Type 0
IsServedAnswer before after fewer more (Done report) = Unit {0}
IsServedAnswer before after fewer more (NoSpelling request occ place lock) = Unit {0}
IsServedAnswer before after fewer more (BrokenRule request rule place) = Unit {0}
IsServedAnswer before after fewer more (TooLarge what request) = Unit {0}
IsServedAnswer before after fewer more other = IsFailure before after fewer more other
