-- Whether a spelling suits its row.
use Rattle.std.specs.Prelude.{ℕ, ◌+◌, ◌-◌, ◌<◌, ◌≡◌, Bool, true, false, not, ◌&&◌, ◌||◌, List, [], ◌∷◌, length, Option, Some, None, is_some, is_none, nat_eq, nat_lt, IsTrue, slice_get}
use Rattle.jr_tree.specs.declared.label.Label.{Label}
use Rattle.jr_tree.specs.declared.label.Label.TheVariants as is
use Rattle.jr_tree.specs.declared.label.ReceiverKind.{ReceiverKind}
use Rattle.jr_tree.specs.declared.label.ReceiverKind.TheVariants as on
use Rattle.jr_tree.specs.Rows.{Rows, label}
use Rattle.jr_defs.specs.declared.referent.Referent.{Referent}
use Rattle.jr_defs.specs.declared.referent.Referent.TheVariants.{Unbound, Ambiguous, ArrayLength, Package, Declared}
use Rattle.jr_defs.specs.Referents.{Table}
use Rattle.jr_shapes.specs.declared.spelling.Shape.{Shape}
use Rattle.jr_shapes.specs.declared.spelling.Shape.TheVariants as shape
use Rattle.jr_shapes.specs.declared.spelling.Spelling.{Spelling}
use Rattle.jr_shapes.specs.declared.spelling.TypeName.{TypeName}
use Rattle.jr_shapes.specs.Parts.{receiver_of}
use Rattle.jr_shapes.specs.Arguments.{first_argument, argument_after}
use Rattle.jr_runs.specs.Marks.{Marks, chosen_at, is_dropped}
use Rattle.jr_runs.specs.Plans.{names, kept_names}

abbrev pub is_number : Option ℕ → ℕ → Bool
is_number (Some i) k = nat_eq i k
is_number None k = false

abbrev pub may_be_shaped : ReceiverKind → Bool → Bool
may_be_shaped on.Absent may_call = may_call
may_be_shaped on.Name may_call = may_call
may_be_shaped _ may_call = false

-- a name; a call without a receiver, or behind a name
abbrev pub is_shaped : Label → Bool → Bool
is_shaped (is.Name kind place is_qualified) may_call = true
is_shaped (is.Call receiver) may_call = may_be_shaped receiver may_call
is_shaped _ may_call = false

abbrev pub is_super_select : Label → Bool
is_super_select is.SuperSelect = true
is_super_select _ = false

abbrev pub can_be_shaped : Rows → Table → ℕ → Bool → Bool
can_be_shaped p t n may_call = is_shaped (label p n) may_call && is_none (receiver_of p t n)

-- the shape is one that the reference can have
abbrev pub can_have : Rows → Table → ℕ → Shape → Bool
can_have p t n shape.Kept = true
can_have p t n (shape.Cast suffix) = is_some (receiver_of p t n)
can_have p t n shape.Super = can_be_shaped p t n false
can_have p t n (shape.Named suffix) = can_be_shaped p t n false
can_have p t n (shape.CastThis suffix) = is_super_select (label p n) || can_be_shaped p t n true
can_have p t n _ = can_be_shaped p t n true

-- there are as many casts as arguments
abbrev pub fits_casts : Rows → ℕ → Option ℕ → List TypeName → Bool
fits_casts p n None [] = true
fits_casts p n (Some a) [] = false
fits_casts p n None (ty ∷ rest) = false
fits_casts p n (Some a) (ty ∷ rest) = fits_casts p n (argument_after p n a) rest

abbrev pub casts_all : Rows → ℕ → List TypeName → Bool
casts_all p n [] = true
casts_all p n (ty ∷ rest) = fits_casts p n (first_argument p n) (ty ∷ rest)

-- what it refers to is its lock, whatever the level
abbrev pub is_declaration : ℕ → Referent → Bool
is_declaration d (Declared e level) = nat_eq e d
is_declaration d _ = false

abbrev pub is_lock : Referent → Referent → Bool
is_lock (Declared d level) found = is_declaration d found
is_lock Unbound Unbound = true
is_lock Ambiguous Ambiguous = true
is_lock ArrayLength ArrayLength = true
is_lock Package Package = true
is_lock _ _ = false

-- a type that is named is the one that is referred to
abbrev pub names_its_own : Shape → Referent → Bool
names_its_own (shape.Named suffix) found = is_declaration suffix.of found && nat_lt 0 suffix.count
names_its_own _ found = true

-- how many identifiers of packages and types are written
abbrev pub names_of : Rows → Table → Spelling → ℕ → Shape → ℕ
names_of p t s n shape.Kept = length (kept_names p t n s.found)
names_of p t s n (shape.Outer f) = length (names p f)
names_of p t s n (shape.CastThis f) = length (names p f)
names_of p t s n (shape.CastOuter f outer) = length (names p f) + length (names p outer)
names_of p t s n (shape.Type f) = length (names p f)
names_of p t s n (shape.Cast f) = length (names p f)
names_of p t s n (shape.Named f) = length (names p f) - 1
names_of p t s n _ = 0

abbrev pub suits_row : Rows → Table → ℕ → Spelling → Bool
suits_row p t n s = can_have p t n s.shape && casts_all p n s.casts.items && is_lock (t n) s.found && names_its_own s.shape s.found
    && nat_eq (length s.trace.items) (names_of p t s n s.shape)

-- it stands in the program and has no other spelling, it is not written with the row over it, it can be spelled so, it refers to its lock, and of each identifier that is
-- written it is said what that refers to
abbrev pub suits : Rows → Table → Marks → ℕ → Spelling → Bool
suits p t m i s = nat_lt s.row (length p) && is_number (chosen_at m s.row) i && not (is_dropped m s.row) && suits_row p t s.row s

-- the first so many spellings suit
pub record AllSuit (p : Rows) (t : Table) (m : Marks) (c : List Spelling) (count : ℕ) : Type 0 where
  pub each : (i : ℕ) (s : Spelling) → i < count → slice_get c i ≡ Some s → IsTrue (suits p t m i s)
