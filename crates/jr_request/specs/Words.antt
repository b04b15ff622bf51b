-- The grammar of the words: a folder, a command, and what the command takes.
use Rattle.std.specs.Prelude.{◌≡◌, ℕ, List, [], ◌∷◌, Option, Some, None, option_map, option_and_then, if◌then◌else◌, codes, nat_eq, Result, Ok, Err, ⊤}
use Rattle.std.specs.Str.{bytes_eq}
use Rattle.jr_base.specs.Number.{number_of}
use Rattle.jr_base.specs.declared.request.Request.TheVariants.{Rename, Move, Extract, Inline, PullUp, Delete, Repackage, Lift}
use Rattle.jr_request.specs.declared.command.Command.{Command}
use Rattle.jr_request.specs.declared.command.Command.TheVariants.{One, Batch, Check, Run, Demo, Undo, Refs, Subtypes, Callers}
use Rattle.jr_request.specs.declared.words.PlaceWord.{PlaceWord}
use Rattle.jr_request.specs.declared.words.PlaceWord.TheVariants.{Inline as InlineWord, PullUp as PullUpWord, Delete as DeleteWord, Lift as LiftWord, Refs as RefsWord, Subtypes as SubtypesWord, Callers as CallersWord}
use Rattle.jr_request.specs.declared.fault.RequestFault.{RequestFault}
use Rattle.jr_request.specs.declared.fault.RequestFault.TheVariants.{BadWords, BadJson, BadField, OutOfMemory}

-- an offset: one or more digits, at most 4294967295
abbrev pub offset_of : List ℕ → Option ℕ
offset_of word = number_of 4294967295 word

abbrev pub one_word : List ℕ → Option Command
one_word command =
    if bytes_eq command (codes "batch") then Some Batch
    else (if bytes_eq command (codes "check") then Some Check
    else (if bytes_eq command (codes "undo") then Some Undo else None))

-- from 1 to 4000
abbrev pub classes_of : List ℕ → Option ℕ
classes_of word = option_and_then (λ n. if nat_eq n 0 then None else Some n) (number_of 4000 word)

abbrev pub demo_of : List ℕ → List ℕ → Option Command
demo_of command number = if bytes_eq command (codes "demo") then option_map (λ n. Demo n) (classes_of number) else None

abbrev pub run_of : List ℕ → List ℕ → Option Command
run_of class steps = option_map (λ n. Run class n) (number_of 10000000 steps)

-- the commands that take a file and an offset
abbrev pub place_word : List ℕ → Option PlaceWord
place_word command =
    if bytes_eq command (codes "inline") then Some InlineWord
    else (if bytes_eq command (codes "pullup") then Some PullUpWord
    else (if bytes_eq command (codes "delete") then Some DeleteWord
    else (if bytes_eq command (codes "lift") then Some LiftWord
    else (if bytes_eq command (codes "refs") then Some RefsWord
    else (if bytes_eq command (codes "subtypes") then Some SubtypesWord
    else (if bytes_eq command (codes "callers") then Some CallersWord else None))))))

abbrev pub place_command : PlaceWord → List ℕ → ℕ → Command
place_command InlineWord file at = One (Inline file at)
place_command PullUpWord file at = One (PullUp file at)
place_command DeleteWord file at = One (Delete file at)
place_command LiftWord file at = One (Lift file at)
place_command RefsWord file at = Refs file at
place_command SubtypesWord file at = Subtypes file at
place_command CallersWord file at = Callers file at

abbrev pub place_of : List ℕ → List ℕ → List ℕ → Option Command
place_of command file at = option_and_then (λ word. option_map (λ n. place_command word file n) (offset_of at)) (place_word command)

abbrev pub two_words : List ℕ → List ℕ → List ℕ → Option Command
two_words command first second =
    if bytes_eq command (codes "run") then run_of first second
    else (if bytes_eq command (codes "repackage") then Some (One (Repackage first second)) else place_of command first second)

abbrev pub place_and_name : List ℕ → List ℕ → List ℕ → List ℕ → Option Command
place_and_name command file at name =
    if bytes_eq command (codes "rename") then option_map (λ n. One (Rename file n name)) (offset_of at)
    else (if bytes_eq command (codes "move") then option_map (λ n. One (Move file n name)) (offset_of at) else None)

abbrev pub range_and_name : List ℕ → List ℕ → List ℕ → List ℕ → List ℕ → Option Command
range_and_name command file start end name =
    if bytes_eq command (codes "extract")
    then option_and_then (λ m. option_map (λ n. One (Extract file m n name)) (offset_of end)) (offset_of start)
    else None

-- the command of the words after the program's name, of which the first is the folder
abbrev pub command_of : List (List ℕ) → Option Command
command_of (folder ∷ command ∷ []) = one_word command
command_of (folder ∷ command ∷ number ∷ []) = demo_of command number
command_of (folder ∷ command ∷ first ∷ second ∷ []) = two_words command first second
command_of (folder ∷ command ∷ file ∷ at ∷ name ∷ []) = place_and_name command file at name
command_of (folder ∷ command ∷ file ∷ start ∷ end ∷ name ∷ []) = range_and_name command file start end name
command_of words = None

-- what is read is what the words say, and they are refused exactly where they say nothing
abbrev pub ReadsAs : {A : Type 0} → Result A RequestFault → Option A → Type 0
ReadsAs (Ok x) said = said ≡ Some x
ReadsAs (Err BadWords) said = said ≡ None
ReadsAs (Err BadJson) said = ⊥
ReadsAs (Err (BadField request field)) said = ⊥
ReadsAs (Err OutOfMemory) said = ⊤
