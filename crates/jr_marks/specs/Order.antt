-- The order of occurrences: by nodes, and those of a name from its first identifier on (JLS 6.5.2).
use Rattle.std.specs.Prelude.{ℕ, ◌+◌, ◌-◌, Bool, true, false, not, ◌&&◌, if◌then◌else◌, List, [], ◌∷◌, length, nat_lt, Option, Some, None}
use Rattle.jr_tree.specs.declared.label.Label.{Label}
use Rattle.jr_tree.specs.declared.label.Label.TheVariants as is
use Rattle.jr_tree.specs.declared.label.NamePlace.{NamePlace}
use Rattle.jr_tree.specs.declared.label.NamePlace.TheVariants as place
use Rattle.jr_tree.specs.Rows.{Rows, label, parent, end, sought_at}
use Rattle.jr_plain.specs.Search.{first_below, gathered}
use Rattle.jr_plain.specs.Declarations.{is_nothing}
use Rattle.jr_plain.specs.Enclosing.{is_body}

-- the row looks for something
abbrev pub seeks : Rows → ℕ → Bool
seeks p n = not (is_nothing (sought_at p n))

abbrev pub itself : Rows → ℕ → List ℕ
itself p n = if seeks p n then n ∷ [] else []

-- the identifiers of a name, whose last one is the row, up to a row: the first one stands last
abbrev pub name_turn : Rows → ℕ → ℕ → List ℕ
name_turn p n end = gathered (end - n) (λ back. itself p (end - back - 1))

abbrev pub is_default_constructor : Label → Bool
is_default_constructor is.DefaultConstructor = true
is_default_constructor _ = false

-- the body of a class that ends before a row
abbrev pub first_body : Rows → ℕ → ℕ → Option ℕ
first_body p c end = first_below end (λ k. nat_lt c k && is_body (label p k))

-- the call in the constructor that stands first in a body, if that is not written
abbrev pub first_call : Rows → ℕ → List ℕ
first_call p body = if is_default_constructor (label p (body + 1)) then itself p (body + 1 + 1) else []

abbrev pub default_call_in : Rows → Option ℕ → List ℕ
default_call_in p None = []
default_call_in p (Some body) = first_call p body

-- a call of super() that is not written, unless its constructor is not written
abbrev pub call_by : Rows → ℕ → ℕ → List ℕ
call_by p over n = if is_default_constructor (label p over) then [] else itself p n

abbrev pub name_by : NamePlace → Rows → ℕ → List ℕ
name_by place.Qualifier p n = []
name_by _ p n = name_turn p n (end p n)

-- what comes at the turn of a row: identifiers before a dot come with the last one, and the call of super() in a default constructor before the names in the
-- header of its class
abbrev pub turn_by : Label → Rows → ℕ → List ℕ
turn_by (is.Name kind place is_qualified) p n = name_by place p n
turn_by (is.Class modifiers is_member) p n = default_call_in p (first_body p n (end p n))
turn_by is.ImplicitCall p n = call_by p (parent p n) n
turn_by _ p n = itself p n

abbrev pub turn : Rows → ℕ → List ℕ
turn p n = turn_by (label p n) p n

-- the rows that look for something, in their order
abbrev pub occurrences : Rows → List ℕ
occurrences p = gathered (length p) (turn p)
