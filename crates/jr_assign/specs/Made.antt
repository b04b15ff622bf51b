-- Blank final fields in code: what is assigned when the parts of a body are done and where its constructors end, 64 fields at a time.
use Rattle.std.specs.Prelude.{◌≡◌, ℕ, ◌+◌, ◌-◌, ◌<◌, ◌≤◌, Bool, true, false, not, ◌&&◌, if◌then◌else◌, List, length, Option, Some, None, Decides, bit_and, nat_eq, nat_lt, slice_index_or, slice_set}
use Rattle.jr_tree.specs.Rows.{Rows, label, parent, end}
use Rattle.jr_plain.specs.Search.{all_below, all_such, has}
use Rattle.jr_rule.specs.declared.Fault.{Fault}
use Rattle.jr_rule.specs.declared.Rule.TheVariants as rule
use Rattle.jr_rule.specs.Faults.{AreFaultsOf}
use Rattle.jr_assign.specs.declared.course.Course.{Course}
use Rattle.jr_assign.specs.declared.fields.Group.{Group}
use Rattle.jr_assign.specs.Sets.{both_of}
use Rattle.jr_assign.specs.Changes.{Facts, fact, field_body}
use Rattle.jr_assign.specs.Assigned.{arrives}
use Rattle.jr_assign.specs.Confirmed.{IsWhole}
use Rattle.jr_assign.specs.Words.{mask, sets_by, seen_by}
use Rattle.jr_assign.specs.Judged.{Verdicts, verdict, is_owner, is_lost, is_settled}
use Rattle.jr_assign.specs.Blank.{is_return, is_this_call, is_first, is_static_field, is_blank, EndsSo, IsBefore, IsLeftBlank}

-- the row is a call `this(..)` with which the constructor c begins
abbrev pub is_handing : Rows → ℕ → ℕ → Bool
is_handing p c k = nat_lt c k && (is_this_call (label p k) && nat_eq (parent p (parent p k)) c)

-- ---- words

-- the variable v is in the word
abbrev pub is_in : List (Option ℕ) → ℕ → ℕ → ℕ → Bool
is_in numbers from v word = not (nat_eq (bit_and word (mask numbers from v)) 0)

-- the variable has a bit of the words, and no other has its number
abbrev pub is_followed : List (Option ℕ) → List (Option ℕ) → ℕ → ℕ → Bool
is_followed numbers owners from v = not (nat_eq (mask numbers from v) 0) && is_owner owners (slice_index_or numbers v None) v

-- the word of what is assigned wherever the member has ended
abbrev pub returned_by : Course → ℕ
returned_by c = both_of (sets_by c) (λ i. is_return (fact c.facts.now (c.root + i)).way) (λ i. arrives (sets_by c) c.rows.now c.facts.now c.guarded.now (seen_by c) (c.root + i)) (end c.rows.now c.root - c.root)

abbrev pub ended_by : Course → ℕ
ended_by c = bit_and (seen_by c c.root).done (returned_by c)

-- ---- of the fields of a group

-- wherever the member at the root has ended, from the word that is so before it on
pub record AreEnded (p : Rows) (f : Facts) (numbers owners : List (Option ℕ)) (from root start out : ℕ) : Type 0 where
  pub each : IsWhole p f → root < length p → (v : ℕ) → is_followed numbers owners from v ≡ true → EndsSo v p f root (is_in numbers from v start) (is_in numbers from v out)

-- before the member k of the body
pub record AreBefore (g : Group) (body : ℕ) (is_static : Bool) (k word : ℕ) : Type 0 where
  pub each : IsWhole g.rows.now g.facts.now → (v : ℕ) → is_followed g.numbers.now g.owners.now g.from v ≡ true → IsBefore v g.rows.now g.facts.now body is_static k (is_in g.numbers.now g.from v word)

-- where the constructors of the body that hand on to no other end, of its first k rows
pub data IsBuilt (v : ℕ) (p : Rows) (f : Facts) (body k : ℕ) (start : Bool) : Bool → Type 0 where
  never : {c : ℕ} → is_first p body c ≡ true → EndsSo v p f c start false → IsBuilt v p f body k start false
  always : ((c : ℕ) → body ≤ c → c < body + k → is_first p body c ≡ true → EndsSo v p f c start true) → IsBuilt v p f body k start true

pub record AreBuilt (g : Group) (body k start word : ℕ) : Type 0 where
  pub each : IsWhole g.rows.now g.facts.now → (v : ℕ) → is_followed g.numbers.now g.owners.now g.from v ≡ true → IsBuilt v g.rows.now g.facts.now body k (is_in g.numbers.now g.from v start) (is_in g.numbers.now g.from v word)

-- the whole body: the words of the class and of its instances
pub record AreMade (g : Group) (body statics built : ℕ) : Type 0 where
  pub instances : ℕ
  pub of_class : AreBefore g body true (end g.rows.now body) statics
  pub of_instances : AreBefore g body false (end g.rows.now body) instances
  pub are_built : AreBuilt g body (end g.rows.now body - body) instances built

-- ---- what is found of a field

-- it is assigned when all is made, or it is not
pub data IsMade (p : Rows) (f : Facts) (v : ℕ) (is_assigned : Bool) : Type 0 where
  of_class : is_static_field (label p v) ≡ true → IsBefore v p f (field_body p v) true (end p (field_body p v)) is_assigned → IsMade p f v is_assigned
  of_instances : {start : Bool} → is_static_field (label p v) ≡ false → IsBefore v p f (field_body p v) false (end p (field_body p v)) start
      → IsBuilt v p f (field_body p v) (end p (field_body p v) - field_body p v) start is_assigned → IsMade p f v is_assigned

pub record AreFieldsJudged (p : Rows) (f : Facts) (all : Verdicts) : Type 0 where
  pub each : IsWhole p f → (v : ℕ) (b : Bool) → verdict all v ≡ Some b → IsMade p f v b

abbrev pub is_asked_field : Group → ℕ → ℕ → Bool
is_asked_field g body v = is_followed g.numbers.now g.owners.now g.from v && nat_eq (field_body g.rows.now v) body

abbrev pub judged_field : Group → ℕ → ℕ → ℕ → ℕ → Verdicts → Verdicts
judged_field g body statics built v all = if is_asked_field g body v then slice_set all v (Some (is_in g.numbers.now g.from v (if is_static_field (label g.rows.now v) then statics else built))) else all

-- ---- the faults

abbrev pub blank_field : Rows → ℕ → Option ℕ
blank_field p v = if is_blank p v then Some v else None

abbrev pub left_rows : Rows → Verdicts → List ℕ
left_rows p all = all_such (length p) (λ v. is_lost (blank_field p v) (verdict all v))

-- each blank final field is judged
abbrev pub are_fields_settled : Rows → Verdicts → Bool
are_fields_settled p all = all_below (length p) (λ v. is_settled (blank_field p v) (verdict all v))

-- the faults that are added are those of the rule
pub record AreLeftBlank (p : Rows) (f : Facts) (old new : List Fault) : Type 0 where
  pub rows : List ℕ
  pub are : AreFaultsOf rule.UnassignedFinal rows old new
  pub each : (v : ℕ) → Decides (has rows v) (IsLeftBlank p f v)
