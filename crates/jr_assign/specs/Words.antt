-- Sets of 64 variables as the bits of a word, and tables of them.
use Rattle.std.specs.Prelude.{◌≡◌, ◌<◌, ◌≤◌, ℕ, ◌-◌, ◌^◌, ◌*◌, ◌%◌, Bool, List, Option, Some, None, bit_and, bit_or, if◌then◌else◌, nat_eq, nat_lt, slice_index_or}
use Rattle.std.specs.Int.{bit_at, bit_not, w64}
use Rattle.jr_tree.specs.declared.label.Label.TheVariants as is
use Rattle.jr_tree.specs.Rows.{Rows, label, end}
use Rattle.jr_assign.specs.declared.course.Course.{Course}
use Rattle.jr_assign.specs.declared.course.Gain as course_gain
use Rattle.jr_assign.specs.declared.course.Seen as course_seen
use Rattle.jr_assign.specs.Changes.{Facts, fact}
use Rattle.jr_assign.specs.Sets.{Sets, only}
use Rattle.jr_assign.specs.Assigned.{Seen, Gain, Met, met_at, AreAssigned}

-- all bits
abbrev pub ones : ℕ
ones = 18446744073709551615

-- the word of one number, in the word that begins with a number
abbrev pub bit_of : ℕ → ℕ → ℕ
bit_of from k = if nat_lt k from then 0 else (if nat_lt (k - from) 64 then 1 * 2 ^ (k - from) % 2 ^ 64 else 0)

abbrev pub mask_of : ℕ → Option ℕ → ℕ
mask_of from None = 0
mask_of from (Some k) = bit_of from k

-- by the numbers of variables
abbrev pub mask : List (Option ℕ) → ℕ → ℕ → ℕ
mask numbers from v = mask_of from (slice_index_or numbers v None)

abbrev pub words : List (Option ℕ) → ℕ → Sets ℕ
words numbers from = record { none = 0; all = ones; both = bit_and; either = bit_or; one = mask numbers from; less = λ v x. bit_and x (bit_not w64 (mask numbers from v)) }

-- ---- tables of the rows of a member, from its root on

abbrev pub seen_of : course_seen.Seen → Seen ℕ
seen_of x = record { before = x.before; done = x.done; yes = x.yes; no = x.no }

abbrev pub gain_of : course_gain.Gain → Gain ℕ
gain_of x = record { done = x.done; yes = x.yes; no = x.no }

abbrev pub seen_at : List course_seen.Seen → ℕ → ℕ → course_seen.Seen
seen_at all root n = slice_index_or all (n - root) (record { before = 0; done = 0; yes = 0; no = 0 })

abbrev pub seen_in : List course_seen.Seen → ℕ → ℕ → Seen ℕ
seen_in all root n = seen_of (seen_at all root n)

-- ---- of what is read of a member

abbrev pub sets_by : Course → Sets ℕ
sets_by c = words c.numbers.now c.from

abbrev pub seen_by : Course → ℕ → Seen ℕ
seen_by c = seen_in c.seen.now c.root

abbrev pub met_by : Course → ℕ → Met ℕ
met_by c = met_at (sets_by c) c.rows.now c.facts.now c.guarded.now (seen_by c)

-- ---- a bit of a table of words

abbrev pub has_bit : ℕ → ℕ → Bool
has_bit k x = nat_eq (bit_at x k) 1

abbrev pub bits_of : ℕ → (ℕ → Seen ℕ) → ℕ → Seen Bool
bits_of k a n = record { before = has_bit k (a n).before; done = has_bit k (a n).done; yes = has_bit k (a n).yes; no = has_bit k (a n).no }

-- of the variables that the member declares or assigns, v alone has the bit k
abbrev pub IsTold : List (Option ℕ) → ℕ → ℕ → ℕ → ℕ → Type 0
IsTold numbers from v k d = has_bit k (mask numbers from d) ≡ nat_eq d v

pub record HasBit (numbers : List (Option ℕ)) (from v k : ℕ) (p : Rows) (f : Facts) (root : ℕ) : Type 0 where
  pub small : k < 64
  pub declared : (n : ℕ) → root < n → n < end p root → (is_final : Bool) (dims : ℕ) → label p n ≡ is.Local is_final dims → IsTold numbers from v k n
  pub assigned : (n : ℕ) → root ≤ n → n < end p root → (d : ℕ) → (fact f n).assigned ≡ Some d → IsTold numbers from v k d

-- the law: a solution for words is one for each of their variables
abbrev pub EachWordIsOfVariables : Type 0
EachWordIsOfVariables = (numbers : List (Option ℕ)) (from v k : ℕ) (p : Rows) (f : Facts) (root start : ℕ) (a : ℕ → Seen ℕ) → HasBit numbers from v k p f root
    → AreAssigned (words numbers from) p f root start a → AreAssigned (only v) p f root (has_bit k start) (bits_of k a)
