-- What an input of a batch comes to: requests in JSON (RFC 8259), within the limits.
use Rattle.std.specs.Prelude.{◌≡◌, ℕ, ◌+◌, ◌<◌, ◌≤◌, List, length, drop, Option, Some, None, Result, Ok, Err, IsErrOf, Vec, ⊤}
use Rattle.std.specs.declared.alloc.Global.{Global}
use Rattle.jr_base.specs.declared.limits.Size.TheVariants as size
use Rattle.jr_base.specs.declared.limits.TheConstants.Limits.{INPUT, REQUESTS}
use Rattle.jr_base.specs.declared.request.Request.{Request}
use Rattle.jr_request.specs.Batch.{IsBatchAnswer}
use Rattle.jr_request.specs.declared.fault.RequestFault.TheVariants.{BadJson, BadField}
use Rattle.jr_store.specs.Image.{Rose}
use Rattle.jr_request.specs.declared.input_fault.BatchFault.{BatchFault}
use Rattle.jr_request.specs.declared.input_fault.BatchFault.TheVariants.{SourceFault, TooLarge, Refused, OutOfMemory}

-- the bytes are not JSON, or else this is the first element that is no request, and the field of it to blame
abbrev pub IsRefused : List ℕ → ℕ → Option (List ℕ) → Type 0
IsRefused bytes element None = (element ≡ 0) × IsBatchAnswer bytes (Err BadJson)
IsRefused bytes element (Some field) = IsBatchAnswer bytes (Err (BadField element field))

-- the answer that an input of these bytes has: its size is tested first, then what it says, then the number of requests
abbrev pub IsInputAnswer : List ℕ → Result (List Request) BatchFault → Type 0
IsInputAnswer bytes (Err (TooLarge size.Input)) = INPUT < length bytes
IsInputAnswer bytes (Err (Refused element field)) = (length bytes ≤ INPUT) × IsRefused bytes element field
IsInputAnswer bytes (Err (TooLarge size.Requests)) = (length bytes ≤ INPUT) × ((requests : List Request) × IsBatchAnswer bytes (Ok requests) × (REQUESTS < length requests))
IsInputAnswer bytes (Ok requests) = (length bytes ≤ INPUT) × IsBatchAnswer bytes (Ok requests) × (length requests ≤ REQUESTS)
IsInputAnswer bytes (Err other) = ⊥

-- the requests without where they lie in memory
abbrev pub plain_answer : Result (Vec Request Global) BatchFault → Result (List Request) BatchFault
plain_answer (Ok requests) = Ok requests.items
plain_answer (Err fault) = Err fault

-- of the bytes that an input had this is so, or of some where it does not tell
abbrev pub ForInput : Option (List ℕ) → (List ℕ → Type 0) → Type 0
ForInput None P = (bytes : List ℕ) × P bytes
ForInput (Some bytes) P = P bytes

-- what is read is the answer that the input has, unless memory was refused or a fault was counted
abbrev pub AnswersInput : Option (List ℕ) → Result (Vec Request Global) BatchFault → Type 0
AnswersInput told (Err SourceFault) = ⊤
AnswersInput told (Err OutOfMemory) = ⊤
AnswersInput told result = ForInput told (λ bytes. IsInputAnswer bytes (plain_answer result))

-- the two answers that do not follow from the bytes of the input
abbrev pub GivesUp : Result (Vec Request Global) BatchFault → Type 0
GivesUp (Err SourceFault) = ⊤
GivesUp (Err OutOfMemory) = ⊤
GivesUp other = ⊥

-- at most the first 1,048,577 bytes have been taken
abbrev pub LeavesSome : List ℕ → Option (List ℕ) → Type 0
LeavesSome bytes left = (count : ℕ) × (count ≤ INPUT + 1) × (left ≡ Some (drop count bytes))

-- what is left of an input of these bytes
abbrev pub Leaves : List ℕ → Option (List ℕ) → Result (Vec Request Global) BatchFault → Type 0
Leaves bytes left (Err SourceFault) = LeavesSome bytes left
Leaves bytes left (Err OutOfMemory) = LeavesSome bytes left
Leaves bytes left other = left ≡ Some (drop (INPUT + 1) bytes)

-- the count of faults does not fall, and it rose where a fault of the input is answered
pub record HasInputCause {A : Type 0} (before now : ℕ) (result : Result A BatchFault) : Type 0 where
  pub later : before ≤ now
  pub failed : IsErrOf result SourceFault → Rose before now
