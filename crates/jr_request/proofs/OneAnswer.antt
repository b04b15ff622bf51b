-- An input has one answer.
use denote.RawPtr.{null_ptr}
use Rattle.std.proofs.Common.{◌≡◌, ℕ, ◌<◌, ◌≤◌, List, length, Option, None, Some, Result, Ok, Err, Vec, Global, refl, sym, ap, ◌∙◌, arith, lit≤}
use Rattle.std.proofs.Math.Nat.{le_refl, lt_of_le_of_lt}
use Rattle.jr_base.specs.declared.limits.Size.TheVariants as size
use Rattle.jr_base.specs.declared.limits.TheConstants.Limits.{INPUT, REQUESTS}
use Rattle.jr_base.specs.declared.request.Request.{Request}
use Rattle.jr_request.specs.declared.fault.RequestFault.TheVariants.{BadJson, BadField}
use Rattle.jr_request.specs.Input.{IsInputAnswer}
use Rattle.jr_request.specs.declared.input_fault.BatchFault.{BatchFault}
use Rattle.jr_request.specs.declared.input_fault.BatchFault.TheVariants.{TooLarge, Refused}
use Rattle.jr_request.proofs.Answering.{reading_one}

-- a vector that holds these requests
abbrev held_in : Global → (requests : List Request) → length requests ≤ REQUESTS → Vec Request Global
held_in alloc requests few =
    record { ptr = null_ptr; len = length requests; cap = length requests; alloc = alloc; items = requests; ok = (refl, le_refl (length requests)); small = lt_of_le_of_lt few (lit≤ tt) }

refused_one : (bytes : List ℕ) (element : ℕ) (field : Option (List ℕ)) (b : Result (List Request) BatchFault) → IsInputAnswer bytes (Err (Refused element field)) → IsInputAnswer bytes b
    → Err (Refused element field) ≡ b
refused_one bytes element None b p q =
    ap (λ (n : ℕ). Err (Refused n None)) p.1.0 ∙ reading_one bytes (Err BadJson) b p.0 p.1.1 tt (omega arith) q
refused_one bytes element (Some field) b p q = reading_one bytes (Err (BadField element field)) b p.0 p.1 tt (omega arith) q

requests_one : Global → (bytes : List ℕ) (requests : List Request) (b : Result (List Request) BatchFault) → IsInputAnswer bytes (Ok requests) → IsInputAnswer bytes b → Ok requests ≡ b
requests_one alloc bytes requests b p q = reading_one bytes (Ok (held_in alloc requests p.2)) b p.0 p.1 tt p.2 q

-- The allocator of a vector that the proof makes is any.
pub one_answer : Global → (bytes : List ℕ) (a b : Result (List Request) BatchFault) → IsInputAnswer bytes a → IsInputAnswer bytes b → a ≡ b
one_answer alloc bytes (Ok requests) b p q = requests_one alloc bytes requests b p q
one_answer alloc bytes (Err (Refused element field)) b p q = refused_one bytes element field b p q
one_answer alloc bytes (Err (TooLarge size.Input)) (Ok requests) p q = let small : length bytes ≤ INPUT = q.0 in absurd (omega arith)
one_answer alloc bytes (Err (TooLarge size.Input)) (Err (Refused element field)) p q = let small : length bytes ≤ INPUT = q.0 in absurd (omega arith)
one_answer alloc bytes (Err (TooLarge size.Input)) (Err (TooLarge size.Input)) p q = refl
one_answer alloc bytes (Err (TooLarge size.Input)) (Err (TooLarge size.Requests)) p q = let small : length bytes ≤ INPUT = q.0 in absurd (omega arith)
one_answer alloc bytes (Err (TooLarge size.Input)) (Err other) p q = absurd q
one_answer alloc bytes (Err (TooLarge size.Requests)) (Ok requests) p q = sym (requests_one alloc bytes requests (Err (TooLarge size.Requests)) q p)
one_answer alloc bytes (Err (TooLarge size.Requests)) (Err (Refused element field)) p q = sym (refused_one bytes element field (Err (TooLarge size.Requests)) q p)
one_answer alloc bytes (Err (TooLarge size.Requests)) (Err (TooLarge size.Input)) p q = let small : length bytes ≤ INPUT = p.0 in absurd (omega arith)
one_answer alloc bytes (Err (TooLarge size.Requests)) (Err (TooLarge size.Requests)) p q = refl
one_answer alloc bytes (Err (TooLarge size.Requests)) (Err other) p q = absurd q
one_answer alloc bytes (Err other) b p q = absurd p
