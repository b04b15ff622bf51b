-- An input has one answer, and the front of it that was read has the same.
use Rattle.std.proofs.Common.{◌≡◌, ◌⊎◌, inl, inr, ℕ, ◌+◌, ◌<◌, ◌≤◌, List, [], ◌++◌, length, Option, None, Some, Result, Ok, Err, Vec, Global, refl, sym, ap, ◌∙◌, subst, arith, length-append, append-nil}
use Rattle.std.proofs.lemmas.Bool.{cases_lt}
use Rattle.jr_base.specs.declared.limits.Size.TheVariants as size
use Rattle.jr_base.specs.declared.limits.TheConstants.Limits.{INPUT, REQUESTS}
use Rattle.jr_base.specs.declared.request.Request.{Request}
use Rattle.jr_request.specs.Batch.{IsBatchAnswer}
use Rattle.jr_request.specs.Steps.{AnswersBatch, plain_answer as plain_reading}
use Rattle.jr_request.specs.declared.fault.RequestFault.{RequestFault}
use Rattle.jr_request.specs.declared.fault.RequestFault.TheVariants as refusal
use Rattle.jr_request.proofs.One.{only_one}
use Rattle.jr_request.specs.Input.{IsRefused, IsInputAnswer, plain_answer, ForInput, AnswersInput, GivesUp, Leaves}
use Rattle.jr_request.specs.InputSteps.{IsFront, TakesFront, AnswersBytes, most_read}
use Rattle.jr_request.specs.declared.input_fault.BatchFault.{BatchFault}
use Rattle.jr_request.specs.declared.input_fault.BatchFault.TheVariants.{SourceFault, TooLarge, Refused, OutOfMemory}
use Rattle.jr_request.proofs.Fronts.{rest_left, part_left}

-- ---- one answer

-- what a reading of the bytes comes to, where no size is past its limit
abbrev pub answer_of : Result (List Request) RequestFault → Result (List Request) BatchFault
answer_of (Ok requests) = Ok requests
answer_of (Err refusal.BadJson) = Err (Refused 0 None)
answer_of (Err (refusal.BadField element field)) = Err (Refused element (Some field))
answer_of (Err other) = Err OutOfMemory

abbrev pub count_of : Result (List Request) RequestFault → ℕ
count_of (Ok requests) = length requests
count_of (Err fault) = 0

abbrev pub HasMemory : Result (Vec Request Global) RequestFault → Type 0
HasMemory (Err refusal.OutOfMemory) = ⊥
HasMemory other = Unit {0}

same_reading : (bytes : List ℕ) (read : Result (Vec Request Global) RequestFault) (answer : Result (List Request) RequestFault) → AnswersBatch bytes read → HasMemory read
    → IsBatchAnswer bytes answer → plain_reading read ≡ answer
same_reading bytes read answer p memory q =
    elim (only_one bytes read p answer q) [ inl same ↦ same | inr none ↦ absurd (subst HasMemory none memory) ]

-- the reading that a refusal stands for
refused_by : (bytes : List ℕ) (element : ℕ) (field : Option (List ℕ)) → IsRefused bytes element field
    → (reading : Result (List Request) RequestFault) × IsBatchAnswer bytes reading × (answer_of reading ≡ Err (Refused element field)) × (count_of reading ≡ 0)
refused_by bytes element None p = (Err refusal.BadJson, p.1, ap (λ (n : ℕ). Err (Refused n None)) (sym p.0), refl)
refused_by bytes element (Some field) p = (Err (refusal.BadField element field), p, refl, refl)

-- bytes that say too many requests have no other answer
pub many_one : (bytes : List ℕ) (requests : Vec Request Global) (answer : Result (List Request) BatchFault) → length bytes ≤ INPUT → IsBatchAnswer bytes (Ok requests.items)
    → REQUESTS < length requests.items → IsInputAnswer bytes answer → Err (TooLarge size.Requests) ≡ answer
many_one bytes requests (Ok others) small p many q =
    let few : length others ≤ REQUESTS = q.2 in
    let same : length requests.items ≡ length others = ap count_of (same_reading bytes (Ok requests) (Ok others) p tt q.1) in
    absurd (omega arith)
many_one bytes requests (Err (TooLarge size.Input)) small p many q = absurd (omega arith)
many_one bytes requests (Err (TooLarge size.Requests)) small p many q = refl
many_one bytes requests (Err (Refused element field)) small p many q =
    let reading = refused_by bytes element field q.1 in
    let same : length requests.items ≡ 0 = ap count_of (same_reading bytes (Ok requests) reading.0 p tt reading.1) ∙ reading.3 in
    absurd (omega arith)
many_one bytes requests (Err other) small p many q = absurd q

-- nor have any others
pub reading_one : (bytes : List ℕ) (read : Result (Vec Request Global) RequestFault) (answer : Result (List Request) BatchFault) → length bytes ≤ INPUT → AnswersBatch bytes read
    → HasMemory read → count_of (plain_reading read) ≤ REQUESTS → IsInputAnswer bytes answer → answer_of (plain_reading read) ≡ answer
reading_one bytes read (Ok others) small p memory few q = ap answer_of (same_reading bytes read (Ok others) p memory q.1)
reading_one bytes read (Err (TooLarge size.Input)) small p memory few q = absurd (omega arith)
reading_one bytes read (Err (TooLarge size.Requests)) small p memory few q =
    let said = q.1 in
    let many : REQUESTS < length said.0 = said.2 in
    let same : count_of (plain_reading read) ≡ length said.0 = ap count_of (same_reading bytes read (Ok said.0) p memory said.1) in
    absurd (omega arith)
reading_one bytes read (Err (Refused element field)) small p memory few q =
    let reading = refused_by bytes element field q.1 in
    ap answer_of (same_reading bytes read reading.0 p memory reading.1) ∙ reading.2
reading_one bytes read (Err other) small p memory few q = absurd q

-- ---- the front that was read

module _ (bytes front rest : List ℕ) (split : bytes ≡ front ++ rest) (end : length front < INPUT + 1 → rest ≡ []) where
  shorter : length front ≤ length bytes
  shorter = let long : length bytes ≡ length front + length rest = ap length split ∙ length-append front rest in omega arith

  whole : length front ≤ INPUT → front ≡ bytes
  whole small = sym (split ∙ ap (λ l. front ++ l) (end (omega arith)) ∙ append-nil front)

  reaches : INPUT < length bytes → INPUT < length front
  reaches large = elim (cases_lt INPUT (length front)) [
    | inl reached ↦ reached
    | inr short ↦
        let same : length front ≡ length bytes = ap length (whole short) in
        absurd (omega arith)
  ]

  small_front : length bytes ≤ INPUT → length front ≤ INPUT
  small_front small = let le = shorter in omega arith

  -- the answer of the front is that of the bytes
  pub to_whole : (answer : Result (List Request) BatchFault) → IsInputAnswer front answer → IsInputAnswer bytes answer
  to_whole (Ok requests) p = subst (λ (l : List ℕ). IsInputAnswer l (Ok requests)) (whole p.0) p
  to_whole (Err (TooLarge size.Input)) p = let le = shorter in omega arith
  to_whole (Err (TooLarge size.Requests)) p = subst (λ (l : List ℕ). IsInputAnswer l (Err (TooLarge size.Requests))) (whole p.0) p
  to_whole (Err (Refused element field)) p = subst (λ (l : List ℕ). IsInputAnswer l (Err (Refused element field))) (whole p.0) p
  to_whole (Err other) p = absurd p

  pub to_front : (answer : Result (List Request) BatchFault) → IsInputAnswer bytes answer → IsInputAnswer front answer
  to_front (Ok requests) p = subst (λ (l : List ℕ). IsInputAnswer l (Ok requests)) (sym (whole (small_front p.0))) p
  to_front (Err (TooLarge size.Input)) p = reaches p
  to_front (Err (TooLarge size.Requests)) p = subst (λ (l : List ℕ). IsInputAnswer l (Err (TooLarge size.Requests))) (sym (whole (small_front p.0))) p
  to_front (Err (Refused element field)) p = subst (λ (l : List ℕ). IsInputAnswer l (Err (Refused element field))) (sym (whole (small_front p.0))) p
  to_front (Err other) p = absurd p

for_input : (told new : Option (List ℕ)) (front : List ℕ) (answer : Result (List Request) BatchFault) → IsFront most_read told new front → IsInputAnswer front answer
    → ForInput told (λ bytes. IsInputAnswer bytes answer)
for_input None new front answer p q = (front, q)
for_input (Some bytes) None front answer p q = absurd p.taken
for_input (Some bytes) (Some rest) front answer p q = to_whole bytes front rest p.taken p.end answer q

-- what the front answers, the input answers
pub answers_input : (told new : Option (List ℕ)) (front : List ℕ) (result : Result (Vec Request Global) BatchFault) → IsFront most_read told new front → AnswersBytes front result → AnswersInput told result
answers_input told new front (Ok requests) p q = for_input told new front (Ok requests.items) p q
answers_input told new front (Err (TooLarge size.Input)) p q = for_input told new front (Err (TooLarge size.Input)) p q
answers_input told new front (Err (TooLarge size.Requests)) p q = for_input told new front (Err (TooLarge size.Requests)) p q
answers_input told new front (Err (Refused element field)) p q = for_input told new front (Err (Refused element field)) p q
answers_input told new front (Err SourceFault) p q = tt
answers_input told new front (Err OutOfMemory) p q = tt
answers_input told new front (Err other) p q = absurd q

at_front : (bytes : List ℕ) (new : Option (List ℕ)) (front : List ℕ) (answer : Result (List Request) BatchFault) → IsFront most_read (Some bytes) new front → IsInputAnswer bytes answer
    → IsInputAnswer front answer
at_front bytes None front answer p q = absurd p.taken
at_front bytes (Some rest) front answer p q = to_front bytes front rest p.taken p.end answer q

-- no other answer fits
pub only_input : (told new : Option (List ℕ)) (front : List ℕ) (result : Result (Vec Request Global) BatchFault) → IsFront most_read told new front
    → ((answer : Result (List Request) BatchFault) → IsInputAnswer front answer → (plain_answer result ≡ answer) ⊎ GivesUp result)
    → (bytes : List ℕ) (answer : Result (List Request) BatchFault) → told ≡ Some bytes → IsInputAnswer bytes answer → (plain_answer result ≡ answer) ⊎ GivesUp result
only_input told new front result p only bytes answer is q =
    only answer (at_front bytes new front answer (subst (λ (t : Option (List ℕ)). IsFront most_read t new front) is p) q)

-- ---- what is left

leaves_rest : (bytes : List ℕ) (new : Option (List ℕ)) (front : List ℕ) (result : Result (Vec Request Global) BatchFault) → IsFront most_read (Some bytes) new front → Leaves bytes new result
leaves_rest bytes new front (Err SourceFault) p = (most_read, omega arith, rest_left most_read bytes front new p)
leaves_rest bytes new front (Err OutOfMemory) p = (most_read, omega arith, rest_left most_read bytes front new p)
leaves_rest bytes new front (Err (TooLarge what)) p = rest_left most_read bytes front new p
leaves_rest bytes new front (Err (Refused element field)) p = rest_left most_read bytes front new p
leaves_rest bytes new front (Ok requests) p = rest_left most_read bytes front new p

pub leaves_input : (told new : Option (List ℕ)) (front : List ℕ) (result : Result (Vec Request Global) BatchFault) → IsFront most_read told new front
    → (bytes : List ℕ) → told ≡ Some bytes → Leaves bytes new result
leaves_input told new front result p bytes is = leaves_rest bytes new front result (subst (λ (t : Option (List ℕ)). IsFront most_read t new front) is p)

-- ---- where the reading gives up

leaves_part : (bytes : List ℕ) (new : Option (List ℕ)) (fault : BatchFault) → TakesFront most_read (Some bytes) new (Err fault) → Leaves bytes new (Err fault)
leaves_part bytes new SourceFault p = part_left bytes new p
leaves_part bytes new OutOfMemory p = part_left bytes new p
leaves_part bytes new (TooLarge what) p = absurd p
leaves_part bytes new (Refused element field) p = absurd p

pub leaves_given_up : (told new : Option (List ℕ)) (fault : BatchFault) → TakesFront most_read told new (Err fault) → (bytes : List ℕ) → told ≡ Some bytes → Leaves bytes new (Err fault)
leaves_given_up told new fault p bytes is = leaves_part bytes new fault (subst (λ (t : Option (List ℕ)). TakesFront most_read t new (Err fault)) is p)
