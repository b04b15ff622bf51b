-- What a batch says (JSON, RFC 8259): an array of objects, one for each request.
use Rattle.std.specs.Prelude.{◌≡◌, ◌≢◌, ◌⊎◌, ℕ, ◌+◌, nat_le, List, [], ◌∷◌, find, Bool, true, false, not, ◌||◌, Option, Some, None, IsSome, is_some, option_map, option_and_then, if◌then◌else◌, codes, Result, Ok, Err, IsUtf8, ⊤}
use Rattle.std.specs.Ordering.{nat_cmp}
use Rattle.std.specs.declared.cmp.Ordering.TheVariants.{Greater}
use Rattle.std.specs.Cmp.Lexicographic.{slice_cmp}
use Rattle.std.specs.List.{list_any}
use Rattle.std.specs.Str.{bytes_eq}
use Rattle.serde_json.specs.Data.{Data, array, Items, no_items, item}
use Rattle.serde_json.specs.Find.{get, as_str, as_number, as_u64}
use Rattle.serde_json.specs.Read.{read}
use Rattle.jr_base.specs.declared.request.Request.{Request}
use Rattle.jr_base.specs.declared.request.Request.TheVariants as request
use Rattle.jr_request.specs.declared.element.Action.{Action}
use Rattle.jr_request.specs.declared.element.Action.TheVariants.{Rename, Move, Extract, Inline, PullUp}
use Rattle.jr_request.specs.declared.element.Field.{Field}
use Rattle.jr_request.specs.declared.element.Field.TheVariants.{File, At, From, To, Name, Package}
use Rattle.jr_request.specs.declared.fault.RequestFault.{RequestFault}
use Rattle.jr_request.specs.declared.fault.RequestFault.TheVariants.{BadWords, BadJson, BadField, OutOfMemory}

-- the bytes are JSON by the reading of `serde_json`, and this is the value
pub record IsJson (bytes : List ℕ) (value : Data) : Type 0 where
  pub utf8 : IsUtf8 bytes
  pub reads : read bytes ≡ Some value

-- ---- the members of an element

abbrev pub key_of : Field → List ℕ
key_of File = codes "file"
key_of At = codes "at"
key_of From = codes "from"
key_of To = codes "to"
key_of Name = codes "name"
key_of Package = codes "package"

-- the fields beside `do`, in the order in which they are tested
abbrev pub fields_of : Action → List Field
fields_of Rename = File ∷ At ∷ Name ∷ []
fields_of Move = File ∷ At ∷ Package ∷ []
fields_of Extract = File ∷ From ∷ To ∷ Name ∷ []
fields_of Inline = File ∷ At ∷ []
fields_of PullUp = File ∷ At ∷ []

-- the key is `do` or that of a field
abbrev pub belongs : Action → List ℕ → Bool
belongs action key = bytes_eq key (codes "do") || list_any (λ field. bytes_eq key (key_of field)) (fields_of action)

abbrev pub action_named : List ℕ → Option Action
action_named word =
    if bytes_eq word (codes "rename") then Some Rename
    else (if bytes_eq word (codes "move") then Some Move
    else (if bytes_eq word (codes "extract") then Some Extract
    else (if bytes_eq word (codes "inline") then Some Inline
    else (if bytes_eq word (codes "pullup") then Some PullUp else None))))

-- the text that stands at a key
abbrev pub text_at : List ℕ → Data → Option (List ℕ)
text_at key value = option_and_then as_str (get key value)

-- the offset that stands at a key
abbrev pub offset_at : List ℕ → Data → Option ℕ
offset_at key value = option_and_then (λ n. if nat_le n 4294967295 then Some n else None) (option_and_then as_u64 (option_and_then as_number (get key value)))

-- what the element asks for by `do`
abbrev pub action_of : Data → Option Action
action_of value = option_and_then action_named (text_at (codes "do") value)

-- the field is there with its type
abbrev pub fits : Data → Field → Bool
fits value File = is_some (text_at (codes "file") value)
fits value At = is_some (offset_at (codes "at") value)
fits value From = is_some (offset_at (codes "from") value)
fits value To = is_some (offset_at (codes "to") value)
fits value Name = is_some (text_at (codes "name") value)
fits value Package = is_some (text_at (codes "package") value)

-- the first field that is missing or ill-typed
abbrev pub lacking : Action → Data → Option Field
lacking action value = find (λ field. not (fits value field)) (fields_of action)

-- the request that the fields say, where each is there with its type
abbrev pub said_by : Action → Data → Option Request
said_by Rename value =
    option_and_then (λ file. option_and_then (λ at. option_map (λ name. request.Rename file at name)
    (text_at (codes "name") value)) (offset_at (codes "at") value)) (text_at (codes "file") value)
said_by Move value =
    option_and_then (λ file. option_and_then (λ at. option_map (λ target. request.Move file at target)
    (text_at (codes "package") value)) (offset_at (codes "at") value)) (text_at (codes "file") value)
said_by Extract value =
    option_and_then (λ file. option_and_then (λ start. option_and_then (λ end. option_map (λ name. request.Extract file start end name)
    (text_at (codes "name") value)) (offset_at (codes "to") value)) (offset_at (codes "from") value)) (text_at (codes "file") value)
said_by Inline value =
    option_and_then (λ file. option_map (λ at. request.Inline file at) (offset_at (codes "at") value)) (text_at (codes "file") value)
said_by PullUp value =
    option_and_then (λ file. option_map (λ at. request.PullUp file at) (offset_at (codes "at") value)) (text_at (codes "file") value)

-- each key of the element belongs to it
abbrev pub HasOnly : Action → Data → Type 0
HasOnly action value = (key : List ℕ) → IsSome (get key value) → belongs action key ≡ true

-- the least key in byte order that does not belong
pub record IsLeastOther (action : Action) (value : Data) (key : List ℕ) : Type 0 where
  pub there : IsSome (get key value)
  pub other : belongs action key ≡ false
  pub least : (k : List ℕ) → IsSome (get k value) → belongs action k ≡ false → slice_cmp nat_cmp key k ≢ Greater

-- ---- elements

pub record IsRequest (value : Data) (request : Request) : Type 0 where
  pub action : Action
  pub named : action_of value ≡ Some action
  pub said : said_by action value ≡ Some request
  pub only : HasOnly action value

-- the field to blame, where the fields are tested first
abbrev pub IsKeyFault : Option Field → Action → Data → List ℕ → Type 0
IsKeyFault (Some field) action value key = key ≡ key_of field
IsKeyFault None action value key = IsLeastOther action value key

-- the field to blame, where `do` is tested first
abbrev pub IsActionFault : Option Action → Data → List ℕ → Type 0
IsActionFault None value key = key ≡ codes "do"
IsActionFault (Some action) value key = IsKeyFault (lacking action value) action value key

-- the first field of the element that is missing or ill-typed, or else the least key that does not belong
abbrev pub IsElementFault : Data → List ℕ → Type 0
IsElementFault value key = IsActionFault (action_of value) value key

-- ---- the array

abbrev pub AreRequests : Items → List Request → Type 0
AreRequests no_items [] = ⊤
AreRequests no_items (r ∷ rs) = ⊥
AreRequests (item value values) [] = ⊥
AreRequests (item value values) (r ∷ rs) = IsRequest value r × AreRequests values rs

-- the number of the first element that is no request, and the field to blame
abbrev pub IsFirstFault : ℕ → Items → ℕ → List ℕ → Type 0
IsFirstFault next no_items index key = ⊥
IsFirstFault next (item value values) index key =
    ((index ≡ next) × IsElementFault value key) ⊎ (((r : Request) × IsRequest value r) × IsFirstFault (next + 1) values index key)

abbrev pub IsBatch : Data → List Request → Type 0
IsBatch (array values) requests = AreRequests values requests
IsBatch value requests = ⊥

-- elements are numbered from 1, and 0 stands for a value that is no array
abbrev pub IsBatchFault : Data → ℕ → List ℕ → Type 0
IsBatchFault (array values) index key = IsFirstFault 1 values index key
IsBatchFault value index key = (index ≡ 0) × (key ≡ codes "do")

-- the answer that the bytes have
abbrev pub IsBatchAnswer : List ℕ → Result (List Request) RequestFault → Type 0
IsBatchAnswer bytes (Ok requests) = (value : Data) × IsJson bytes value × IsBatch value requests
IsBatchAnswer bytes (Err BadJson) = (value : Data) → IsJson bytes value → ⊥
IsBatchAnswer bytes (Err (BadField index key)) = (value : Data) × IsJson bytes value × IsBatchFault value index key
IsBatchAnswer bytes (Err BadWords) = ⊥
IsBatchAnswer bytes (Err OutOfMemory) = ⊥
