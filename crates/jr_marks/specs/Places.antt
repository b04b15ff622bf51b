-- Where rows stand in texts, and the row at an offset.
use Rattle.std.specs.Prelude.{◌≡◌, ℕ, ◌-◌, ◌^◌, ◌≤◌, ◌<◌, Bool, true, false, ◌&&◌, if◌then◌else◌, List, [], length, Option, Some, None, nat_eq, nat_lt, nat_le, slice_get, slice_index_or}
use Rattle.std.specs.List.{count_by}
use Rattle.std.specs.List.Sorted.{IsNonDecreasing}
use Rattle.jr_base.specs.declared.kind.Kind.{Kind}
use Rattle.jr_base.specs.declared.kind.Kind.TheVariants as kind
use Rattle.jr_base.specs.declared.token.Token.{Token}
use Rattle.jr_base.specs.declared.token.Place.{Place}
use Rattle.jr_tree.specs.declared.label.Label.{Label}
use Rattle.jr_tree.specs.declared.label.Label.TheVariants as is
use Rattle.jr_tree.specs.Rows.{Rows, label, end}
use Rattle.jr_plain.specs.Search.{first_below}
use Rattle.jr_defs.specs.declared.program.UnitAt.{UnitAt}
use Rattle.jr_index.specs.declared.mark.Mark.{Mark}
use Rattle.jr_rule.specs.declared.Fault.{Fault}
use Rattle.jr_rule.specs.declared.PlaceKind.{PlaceKind}
use Rattle.jr_rule.specs.declared.PlaceKind.TheVariants as shown
use Rattle.jr_rule.specs.Shown.{place_kind}
use Rattle.jr_marks.specs.declared.marks.Marks.{Marks}

-- ---- tokens

-- tokens stand one behind another, and none is empty
pub record AreApart (ts : List Token) : Type 0 where
  pub whole : (k : ℕ) (d : Token) → k < length ts → (slice_index_or ts k d).span.start < (slice_index_or ts k d).span.end
  pub apart : (j k : ℕ) (d : Token) → j < k → k < length ts → (slice_index_or ts j d).span.end ≤ (slice_index_or ts k d).span.start

-- the first tokens, so many of them, end at an offset or before it, and all others behind it
pub record IsCut (ts : List Token) (offset n : ℕ) : Type 0 where
  pub before : (k : ℕ) (d : Token) → k < n → (slice_index_or ts k d).span.end ≤ offset
  pub behind : (k : ℕ) (d : Token) → n ≤ k → k < length ts → offset < (slice_index_or ts k d).span.end

abbrev pub is_identifier : Kind → Bool
is_identifier (kind.Ident name) = true
is_identifier _ = false

-- the token is an identifier that holds the offset
abbrev pub holds : ℕ → Option Token → Bool
holds offset None = false
holds offset (Some t) = is_identifier t.kind && nat_le t.span.start offset && nat_lt offset t.span.end

abbrev pub identifier_at : List Token → ℕ → Option ℕ
identifier_at ts offset = first_below (length ts) (λ n. holds offset (slice_get ts n))

abbrev pub start_by : Option Token → ℕ
start_by None = 0
start_by (Some t) = t.span.start

-- ---- units

-- how many numbers are not above a number
abbrev pub count_to : List ℕ → ℕ → ℕ
count_to numbers n = count_by (λ k. nat_le k n) numbers

-- the unit of a row is the last one that begins at it or before
abbrev pub unit_in : List ℕ → ℕ → ℕ
unit_in starts n = count_to starts n - 1

abbrev pub tokens_by : Option UnitAt → List Token
tokens_by None = []
tokens_by (Some unit) = unit.tokens

-- ---- marks

-- the number of a token that is not there
abbrev pub no_token : ℕ
no_token = 4294967295

abbrev pub no_mark : Mark
no_mark = record { first = no_token; after = no_token; own = no_token }

abbrev pub mark_of : Marks → ℕ → Mark
mark_of m n = slice_index_or m.marks.now n no_mark

abbrev pub unit_of : Marks → ℕ → ℕ
unit_of m n = unit_in m.starts.now n

-- the tokens of a unit
abbrev pub tokens_of : Marks → ℕ → List Token
tokens_of m unit = tokens_by (slice_get m.units.now unit)

-- units begin one behind another, each within the rows; they are not too many, and the prelude is there; the tokens of each stand apart
pub record IsOrdered (m : Marks) : Type 0 where
  pub few : length m.rows.now < 2 ^ 32
  pub begins : length m.starts.now ≡ length m.units.now
  pub prelude : 2 ≤ length m.units.now
  pub within : (u d : ℕ) → u < length m.starts.now → slice_index_or m.starts.now u d < length m.rows.now
  pub rise : IsNonDecreasing m.starts.now
  pub count : length m.starts.now < 2 ^ 32
  pub tokens : (u : ℕ) → AreApart (tokens_of m u)
  pub counts : (u : ℕ) → length (tokens_of m u) < 2 ^ 32

-- the identifier by which a row refers or that it declares, else its first token
abbrev pub own_or_first : Mark → ℕ
own_or_first mark = if nat_eq mark.own no_token then mark.first else mark.own

abbrev pub place_in : Marks → ℕ → ℕ → Place
place_in m unit token = record { cu = record { 0 = unit }; at = if nat_le 2 unit then start_by (slice_get (tokens_of m unit) token) else 0 }

abbrev pub place_of_name : Marks → ℕ → Place
place_of_name m n = place_in m (unit_of m n) (own_or_first (mark_of m n))

-- the first token of a row
abbrev pub place_of_first : Marks → ℕ → Place
place_of_first m n = place_in m (unit_of m n) (mark_of m n).first

abbrev pub place_by : PlaceKind → Marks → ℕ → Place
place_by shown.Name m n = place_of_name m n
place_by shown.First m n = place_of_first m n

-- where a broken rule is shown: at the identifier by which the row refers or that it declares, or at its first token
abbrev pub place_of_fault : Marks → Fault → Place
place_of_fault m fault = place_by (place_kind fault.rule) m fault.row

-- ---- the row at an offset

-- what is not written, and a creation, share the identifier of another row
abbrev pub has_own_label : Label → Bool
has_own_label is.DefaultConstructor = false
has_own_label is.ImplicitCall = false
has_own_label is.New = false
has_own_label _ = true

abbrev pub has_own_name : Rows → ℕ → Bool
has_own_name p n = nat_lt n (length p) && has_own_label (label p n)

-- the row's own identifier is this token
abbrev pub is_named_by : Marks → ℕ → ℕ → Bool
is_named_by m token n = nat_eq (mark_of m n).own token && has_own_name m.rows.now n

-- the first of these rows whose own identifier is the token
abbrev pub first_named : Marks → ℕ → ℕ → ℕ → Option ℕ
first_named m start end token = first_below end (λ n. nat_le start n && is_named_by m token n)

abbrev pub row_in : Marks → ℕ → ℕ → Option ℕ
row_in m start token = if nat_lt start (length m.rows.now) then first_named m start (end m.rows.now start) token else None

abbrev pub row_from : Marks → Option ℕ → Option ℕ → Option ℕ
row_from m (Some start) (Some token) = row_in m start token
row_from m _ _ = None

abbrev pub row_at_offset : Marks → ℕ → ℕ → Option ℕ
row_at_offset m unit offset = row_from m (slice_get m.starts.now unit) (identifier_at (tokens_of m unit) offset)
