-- What the steps of reading a batch answer.
use Rattle.std.specs.Prelude.{◌≡◌, ℕ, List, Vec, Option, Some, None, option_map, Result, Ok, Err, ⊤, String, string_bytes}
use Rattle.std.specs.declared.alloc.Global.{Global}
use Rattle.serde_json.specs.Data.{Data, Items}
use Rattle.jr_base.specs.declared.request.Request.{Request}
use Rattle.jr_request.specs.declared.element.Action.{Action}
use Rattle.jr_request.specs.declared.element.Field.{Field}
use Rattle.jr_request.specs.declared.fault.RequestFault.{RequestFault}
use Rattle.jr_request.specs.declared.fault.RequestFault.TheVariants.{BadWords, BadJson, BadField, OutOfMemory}
use Rattle.jr_request.specs.Batch.{key_of, lacking, said_by, HasOnly, IsLeastOther, IsRequest, IsElementFault, AreRequests, IsFirstFault, IsBatch, IsBatchFault, IsBatchAnswer}

-- the fault names the element and the field, or memory was refused
abbrev pub IsFaultAt : ℕ → List ℕ → RequestFault → Type 0
IsFaultAt number key (BadField n k) = (n ≡ number) × (k ≡ key)
IsFaultAt number key OutOfMemory = ⊤
IsFaultAt number key BadWords = ⊥
IsFaultAt number key BadJson = ⊥

abbrev pub ReadsField : {A : Type 0} → Result A RequestFault → ℕ → Field → Option A → Type 0
ReadsField (Ok x) number field said = said ≡ Some x
ReadsField (Err (BadField n k)) number field said = (n ≡ number) × (k ≡ key_of field) × (said ≡ None)
ReadsField (Err OutOfMemory) number field said = ⊤
ReadsField (Err BadWords) number field said = ⊥
ReadsField (Err BadJson) number field said = ⊥

abbrev pub ReadsFields : Result Request RequestFault → ℕ → Action → Data → Type 0
ReadsFields (Ok r) number action value = said_by action value ≡ Some r
ReadsFields (Err (BadField n k)) number action value = (n ≡ number) × (option_map key_of (lacking action value) ≡ Some k)
ReadsFields (Err OutOfMemory) number action value = ⊤
ReadsFields (Err BadWords) number action value = ⊥
ReadsFields (Err BadJson) number action value = ⊥

abbrev pub IsOtherKey : Action → Data → Option (String Global) → Type 0
IsOtherKey action value None = HasOnly action value
IsOtherKey action value (Some key) = IsLeastOther action value (string_bytes key)

abbrev pub ReadsElement : Result Request RequestFault → ℕ → Data → Type 0
ReadsElement (Ok r) number value = IsRequest value r
ReadsElement (Err (BadField n k)) number value = (n ≡ number) × IsElementFault value k
ReadsElement (Err OutOfMemory) number value = ⊤
ReadsElement (Err BadWords) number value = ⊥
ReadsElement (Err BadJson) number value = ⊥

abbrev pub ReadsElements : Result (Vec Request Global) RequestFault → Items → Type 0
ReadsElements (Ok rs) values = AreRequests values rs.items
ReadsElements (Err (BadField n k)) values = IsFirstFault 1 values n k
ReadsElements (Err OutOfMemory) values = ⊤
ReadsElements (Err BadWords) values = ⊥
ReadsElements (Err BadJson) values = ⊥

abbrev pub ReadsValue : Result (Vec Request Global) RequestFault → Data → Type 0
ReadsValue (Ok rs) value = IsBatch value rs.items
ReadsValue (Err (BadField n k)) value = IsBatchFault value n k
ReadsValue (Err OutOfMemory) value = ⊤
ReadsValue (Err BadWords) value = ⊥
ReadsValue (Err BadJson) value = ⊥

-- the requests without where they lie in memory
abbrev pub plain_answer : Result (Vec Request Global) RequestFault → Result (List Request) RequestFault
plain_answer (Ok rs) = Ok rs.items
plain_answer (Err e) = Err e

-- what is read is the one answer that the bytes have, unless memory was refused
abbrev pub AnswersBatch : List ℕ → Result (Vec Request Global) RequestFault → Type 0
AnswersBatch bytes (Err OutOfMemory) = ⊤
AnswersBatch bytes result = IsBatchAnswer bytes (plain_answer result)
